-- Answers to the goals of `laws::serial_journals_are_determined`.
use Rattle.cf_history.proofs.SerialLaws.{only_serial}
use Rattle.cf_history.proofs.laws.serial_journals_are_determined.Goals as goal

pub returns : goal.returns
returns c = only_serial
