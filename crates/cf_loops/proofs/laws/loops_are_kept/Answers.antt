use Rattle.cf_loops.proofs.Staying.{kept_by_flow}
use Rattle.cf_loops.proofs.Telling.{kept}
use Rattle.cf_loops.proofs.laws.loops_are_kept.Goals as goal

pub returns : goal.returns
returns c = record { places = kept; flows = kept_by_flow }
