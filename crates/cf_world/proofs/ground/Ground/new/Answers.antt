-- Answers to the goals of `ground::Ground::new`.
use Rattle.std.proofs.Common.{refl, sym, ap, ◌∙◌}
use Rattle.cf_contents.specs.Stores.{StoreView}
use Rattle.cf_world.proofs.Begins.{first_ground}
use Rattle.cf_world.proofs.ground.Ground.new.Goals as goal

pub invariant_of-result : goal.invariant_of-result
invariant_of-result c =
    first_ground _ c.requires (c.reserve.ensures.items ∙ c.new-journal.ensures.items) (ap (λ (v : StoreView). v.bodies) c.new-3.ensures)
    (rw c.script-2.ensures.value at c.in_ok-parcels.ensures.places) c.in_ok-parcels.ensures.empty
    (rw c.script-3.ensures.value at c.in_ok-flags.ensures) refl (λ e. c.in_ok-loops.ensures.start c.args.script (sym (rw c.script-4.ensures.value at c.threads.ensures).count) e.0 e.1)
