-- Answers to the goals of `ground::Ground::enter_drop`.
use Rattle.std.proofs.Common.{refl, sym, subst}
use Rattle.cf_world.proofs.Counting.{entered_ground, entered_view}
use Rattle.cf_world.proofs.Entered.{drop_tells, drop_entered, where_found}
use Rattle.cf_world.proofs.ground.Ground.enter_drop.Goals as goal
use Rattle.cf_contents.specs.Stores.{is_live_in}
use Rattle.std.specs.Prelude.{◌≡◌, true}

pub answer_of_cut-answer-requires : goal.answer_of_cut-answer-requires
answer_of_cut-answer-requires c = rw (← c.self.view_is) (drop_tells c.self.inside c.args.t c.self.invariant c.args.body c.args.object (rw (← c.self.view_is) at c.requires.drop)).made

pub drop_slot-requires : goal.drop_slot-requires
drop_slot-requires c = (drop_tells c.self.inside c.args.t c.self.invariant c.args.body c.args.object (rw (← c.self.view_is) at c.requires.drop)).finalised

pub retire-requires : goal.retire-requires
retire-requires c =
    subst (λ bodies. is_live_in bodies c.args.object ≡ true)
    (sym (where_found _ _ _ _ _ (drop_tells c.self.inside c.args.t c.self.invariant c.args.body c.args.object (rw (← c.self.view_is) at c.requires.drop)).first c.drop_slot.ensures.slot c.drop_slot.ensures.given_up))
    (drop_tells c.self.inside c.args.t c.self.invariant c.args.body c.args.object (rw (← c.self.view_is) at c.requires.drop)).live

pub invariant_of-self : goal.invariant_of-self
invariant_of-self c =
    entered_ground c.self.inside c.args.t c.args.action c.self.invariant (rw (← c.self.view_is) at c.requires.acts) _ _ _
    (drop_entered c.self.inside c.args.t c.self.invariant c.args.body c.args.object (rw (← c.self.view_is) at c.requires.drop) c.args.ended (rw (← c.self.view_is) at c.requires.ended) _ _
    (where_found _ _ _ _ _ (drop_tells c.self.inside c.args.t c.self.invariant c.args.body c.args.object (rw (← c.self.view_is) at c.requires.drop)).first c.drop_slot.ensures.slot c.drop_slot.ensures.given_up) c.retire.ensures)
    c.answer_of_cut-answer.result (rw (← c.self.view_is) at c.answer_of_cut-answer.ensures) refl c.write.ensures.items

pub returns : goal.returns
returns c = record {
  entered = rw (← c.self.view_is) (entered_view c.self.inside c.args.t c.args.action c.self.invariant (rw (← c.self.view_is) at c.requires.acts) _ _
      (record { script = c.self.inside.script; journal = c.write.new.journal; store = c.retire.new.store; parcels = c.self.inside.parcels; flags = c.self.inside.flags; time = c.self.inside.time; loops = c.self.inside.loops })
      (drop_entered c.self.inside c.args.t c.self.invariant c.args.body c.args.object (rw (← c.self.view_is) at c.requires.drop) c.args.ended (rw (← c.self.view_is) at c.requires.ended) _ _
      (where_found _ _ _ _ _ (drop_tells c.self.inside c.args.t c.self.invariant c.args.body c.args.object (rw (← c.self.view_is) at c.requires.drop)).first c.drop_slot.ensures.slot c.drop_slot.ensures.given_up) c.retire.ensures)
      c.answer_of_cut-answer.result (rw (← c.self.view_is) at c.answer_of_cut-answer.ensures) refl c.write.ensures.items c.write.ensures.room);
}
