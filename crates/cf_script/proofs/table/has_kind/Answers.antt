-- Answers to the goals of `table::has_kind`.
use Rattle.cf_script.proofs.TableLaws.{long_enough}
use Rattle.cf_script.proofs.table.has_kind.Goals as goal

pub returns-else-words-lt3 : goal.returns-else-words-lt3
returns-else-words-lt3 c = long_enough c.args.words.now c.any_begins.result _ c.if-words-lt3.false c.any_begins.ensures
