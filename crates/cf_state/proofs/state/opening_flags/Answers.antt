-- Answers to the goals of `state::opening_flags`.
use Rattle.std.proofs.Common.{refl, ◌∙◌, arith}
use Rattle.std.specs.Prelude.{◌==◌}
use Rattle.cf_model.specs.State.{flags_of}
use Rattle.cf_state.proofs.Listing.{map-last}
use Rattle.cf_state.proofs.state.opening_flags.Goals as goal

pub loop-thread-preserved : goal.loop-thread-preserved
loop-thread-preserved c = record {
  made = c.in_ok-push.ensures.items ∙ map-last (λ t. flags_of (t == 0)) c.loop-thread.thread _ _ c.loop-thread.invariant.made c.of.ensures;
  within = omega arith;
}
