-- Answers to the goals of `items::change_item`.
use Rattle.std.proofs.Common.{ap}
use Rattle.cf_contents.specs.Stores.{Held, body_changed}
use Rattle.cf_contents.specs.Deeds.{in_item}
use Rattle.cf_body.specs.Items.{item_of}
use Rattle.cf_store.proofs.Setting.{set_at}
use Rattle.cf_store.proofs.Keeping.{ready_after}
use Rattle.cf_store.proofs.items.change_item.Goals as goal

pub returns-clause-bodies : goal.returns-clause-bodies
returns-clause-bodies c =
    rw (← c.o.view_is)
    (set_at (body_changed (in_item c.args.valid (item_of c.args.state))) _ _ _ _ (rw (← c.o.view_is) at c.requires) c.index_mut.ensures.value c.set_item.ensures.held)

pub returns-clause-ready : goal.returns-clause-ready
returns-clause-ready c =
    λ ready can. ready_after ready _ _ _ _ c.args.valid (item_of c.args.state) (rw (← c.o.view_is) at c.requires) c.index_mut.ensures.value
    (ap (λ (h : Held). h.object.content) c.set_item.ensures.held) c.set_item.ensures.room can
