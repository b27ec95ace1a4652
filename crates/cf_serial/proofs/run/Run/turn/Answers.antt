-- Answers to the goals of `run::Run::turn`.
use Rattle.cf_serial.proofs.Turns.{first_after, first_keeps, first_same}
use Rattle.cf_serial.proofs.run.Run.turn.Goals as goal

pub returns-in-Some-clause-run : goal.returns-in-Some-clause-run
returns-in-Some-clause-run c =
    let r = c.args.self.now in
    first_keeps r c.first_turn.new.self r.pointer r.threads c.in-Some.turn c.requires.run (rw c.in-Some.is at c.in_ok-turn.ensures)

pub returns-in-Some-clause-same : goal.returns-in-Some-clause-same
returns-in-Some-clause-same c =
    let r = c.args.self.now in
    first_same r c.first_turn.new.self r.pointer r.threads c.in-Some.turn (rw c.in-Some.is at c.in_ok-turn.ensures)

pub returns-in-Some-clause-goes : goal.returns-in-Some-clause-goes
returns-in-Some-clause-goes c =
    let r = c.args.self.now in
    first_after r c.first_turn.new.self c.in-Some.turn c.requires.run (rw c.in-Some.is at c.in_ok-turn.ensures)
