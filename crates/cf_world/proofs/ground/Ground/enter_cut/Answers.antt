-- Answers to the goals of `ground::Ground::enter_cut`.
use Rattle.std.proofs.Common.{refl}
use Rattle.cf_world.proofs.Counting.{entered_ground, entered_view}
use Rattle.cf_world.proofs.Entered.{cut_tells, cut_entered}
use Rattle.cf_world.proofs.ground.Ground.enter_cut.Goals as goal

pub answer_of_cut-answer-requires : goal.answer_of_cut-answer-requires
answer_of_cut-answer-requires c =
    rw (← c.self.view_is) (cut_tells c.self.inside c.args.t c.self.invariant c.args.object (rw (← c.self.view_is) at c.requires.cut)).made

pub retire-requires : goal.retire-requires
retire-requires c = (cut_tells c.self.inside c.args.t c.self.invariant c.args.object (rw (← c.self.view_is) at c.requires.cut)).live

pub invariant_of-self : goal.invariant_of-self
invariant_of-self c =
    entered_ground c.self.inside c.args.t c.args.action c.self.invariant (rw (← c.self.view_is) at c.requires.acts) _ _ _
    (cut_entered c.self.inside c.args.t c.self.invariant c.args.object (rw (← c.self.view_is) at c.requires.cut) c.args.ended (rw (← c.self.view_is) at c.requires.ended) _ c.retire.ensures)
    c.answer_of_cut-answer.result (rw (← c.self.view_is) at c.answer_of_cut-answer.ensures) refl c.write.ensures.items

pub returns : goal.returns
returns c = record {
  entered = rw (← c.self.view_is) (entered_view c.self.inside c.args.t c.args.action c.self.invariant (rw (← c.self.view_is) at c.requires.acts) _ _
      (record { script = c.self.inside.script; journal = c.write.new.journal; store = c.retire.new.store; parcels = c.self.inside.parcels; flags = c.self.inside.flags; time = c.self.inside.time; loops = c.self.inside.loops })
      (cut_entered c.self.inside c.args.t c.self.invariant c.args.object (rw (← c.self.view_is) at c.requires.cut) c.args.ended (rw (← c.self.view_is) at c.requires.ended) _ c.retire.ensures)
      c.answer_of_cut-answer.result (rw (← c.self.view_is) at c.answer_of_cut-answer.ensures) refl c.write.ensures.items c.write.ensures.room);
}
