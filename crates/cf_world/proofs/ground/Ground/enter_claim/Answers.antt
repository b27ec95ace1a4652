-- Answers to the goals of `ground::Ground::enter_claim`.
use Rattle.std.proofs.Common.{refl, ap, ◌∙◌}
use Rattle.cf_world.proofs.Counting.{entered_ground}
use Rattle.cf_world.proofs.Entered.{claim_here, claim_entered}
use Rattle.cf_world.proofs.ground.Ground.enter_claim.Goals as goal
use Rattle.cf_world.specs.Entering.{answer_for}

pub set-requires-clause-place : goal.set-requires-clause-place
set-requires-clause-place c = (claim_here c.self.inside c.args.t c.self.invariant c.args.place (rw (← c.self.view_is) at c.requires.acts.thread) (rw (← c.self.view_is) at c.requires.claim)).1

pub invariant_of-self : goal.invariant_of-self
invariant_of-self c =
    entered_ground c.self.inside c.args.t c.args.action c.self.invariant (rw (← c.self.view_is) at c.requires.acts) _ _ _
    (claim_entered c.self.inside c.args.t c.self.invariant c.args.place (rw (← c.self.view_is) at c.requires.acts.thread) (rw (← c.self.view_is) at c.requires.claim) _ c.set.ensures)
    c.answer_for-answer.result (c.answer_for-answer.ensures ∙ ap answer_for c.at.ensures) refl c.write.ensures.items
