-- Answers to the goals of `call::cfrun_serial`.
use Rattle.cf_run.proofs.Concluding.{tells_all}
use Rattle.cf_run.proofs.call.cfrun_serial.Goals as goal

pub returns : goal.returns
returns g c = record { tells = tells_all _ c.run_command.ensures }
