use Rattle.cf_loops.proofs.Telling.{told}
use Rattle.cf_loops.proofs.laws.loops_are_told.Goals as goal

pub returns : goal.returns
returns c = told
