-- Answers to the goals of `dealing::invalidate_named`.
use Rattle.cf_model.specs.Deals.{Deal, invalidate_deal}
use Rattle.cf_scene.specs.Dealing.{IsDone}
use Rattle.cf_scene.proofs.Naming.{an_item}
use Rattle.cf_scene.proofs.dealing.invalidate_named.Goals as goal

pub returns-in-Some : goal.returns-in-Some
returns-in-Some c = λ s st mirrors loops by.
    an_item (λ (deal : Deal). IsDone s st by deal c.invalidate.result c.invalidate.new.store.bodies c.invalidate.new.loops) st.parts c.args.acting.now.object
    (invalidate_deal s st) c.in-Some.item c.in-Some.is (c.invalidate.ensures s st mirrors loops by)
