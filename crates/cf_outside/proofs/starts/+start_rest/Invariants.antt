-- The loop invariants of `starts::+start_rest`.
use Rattle.std.proofs.Common.{vec_len}
use Rattle.cf_outside.proofs.starts.+start_rest.Given as goal

abbrev pub decreases-start_rest : goal.decreases-start_rest
decreases-start_rest g l = vec_len l.jobs
