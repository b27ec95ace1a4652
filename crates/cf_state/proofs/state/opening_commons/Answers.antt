-- Answers to the goals of `state::opening_commons`.
use Rattle.std.proofs.Common.{refl, ◌∙◌, arith}
use Rattle.cf_state.proofs.Listing.{map-last}
use Rattle.cf_state.proofs.state.opening_commons.Goals as goal

pub loop-thread-preserved : goal.loop-thread-preserved
loop-thread-preserved c = record {
  made = c.in_ok-push.ensures.items ∙ map-last (λ t. record { thread = t; mode = 0 }) c.loop-thread.thread _ _ c.loop-thread.invariant.made refl;
  within = omega arith;
}
