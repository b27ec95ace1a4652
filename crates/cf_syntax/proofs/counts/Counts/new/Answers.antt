-- Answers to the goals of `counts::Counts::new`.
use Rattle.cf_syntax.proofs.CountLaws.{room_start}
use Rattle.cf_syntax.proofs.counts.Counts.new.Goals as goal

pub returns-clause-room : goal.returns-clause-room
returns-clause-room c = λ n few. room_start n few
