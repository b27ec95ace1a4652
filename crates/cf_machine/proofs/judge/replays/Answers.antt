-- Answers to the goals of `judge::replays`.
use Rattle.cf_machine.proofs.Judging.{callouts-of, finals-of}
use Rattle.cf_machine.proofs.judge.replays.Goals as goal

pub returns-clause-callouts : goal.returns-clause-callouts
returns-clause-callouts c = callouts-of c.is_legal.result c.args.script.now c.args.entries.now c.is_legal.ensures

pub returns-clause-finals : goal.returns-clause-finals
returns-clause-finals c = finals-of c.is_legal.result c.args.script.now c.args.entries.now c.is_legal.ensures
