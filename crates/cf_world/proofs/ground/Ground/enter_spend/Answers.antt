-- Answers to the goals of `ground::Ground::enter_spend`.
use Rattle.std.proofs.Common.{refl}
use Rattle.cf_model.specs.Journals.{After}
use Rattle.cf_world.proofs.Counting.{entered_ground, entered_view}
use Rattle.cf_world.proofs.Entered.{spend_tells}
use Rattle.cf_world.proofs.ground.Ground.enter_spend.Goals as goal

pub invariant_of-self : goal.invariant_of-self
invariant_of-self c =
    let g = c.self.inside in
    entered_ground g c.args.t c.args.action c.self.invariant (rw (← c.self.view_is) at c.requires.acts) _ _ _
    (spend_tells g c.args.t c.self.invariant c.args.item (rw (← c.self.view_is) at c.requires.spends) c.spend-dealt.result _ _
    (c.spend-dealt.ensures g.script (After g.script g.journal.items) c.self.invariant.follows.mirrors c.self.invariant.follows.has_loops.loops_are c.args.t)) _ refl refl c.write.ensures.items

pub returns-clause-entered : goal.returns-clause-entered
returns-clause-entered c =
    let g = c.self.inside in
    rw (← c.self.view_is) (entered_view g c.args.t c.args.action c.self.invariant (rw (← c.self.view_is) at c.requires.acts) _ _
    (record { script = g.script; journal = c.write.new.journal; store = c.spend-dealt.new.store; parcels = g.parcels; flags = g.flags; time = g.time; loops = c.spend-dealt.new.loops })
    (spend_tells g c.args.t c.self.invariant c.args.item (rw (← c.self.view_is) at c.requires.spends) c.spend-dealt.result _ _
    (c.spend-dealt.ensures g.script (After g.script g.journal.items) c.self.invariant.follows.mirrors c.self.invariant.follows.has_loops.loops_are c.args.t)) _ refl refl c.write.ensures.items c.write.ensures.room)
