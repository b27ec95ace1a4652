-- The loop invariants of `starts::+unrun_all`.
use Rattle.std.proofs.Common.{vec_len}
use Rattle.cf_outside.proofs.starts.+unrun_all.Given as goal

abbrev pub decreases-unrun_all : goal.decreases-unrun_all
decreases-unrun_all g l = vec_len l.jobs
