use Rattle.cf_loops.proofs.Demanding.{step_elsewhere}
use Rattle.cf_loops.proofs.laws.demands_leave_loops.Goals as goal

pub returns : goal.returns
returns c = step_elsewhere
