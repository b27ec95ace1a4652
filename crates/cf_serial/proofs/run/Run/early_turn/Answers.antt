-- Answers to the goals of `run::Run::early_turn`.
use Rattle.cf_serial.proofs.Turns.{early_none, first_before, first_keeps, first_same, pointer_within}
use Rattle.cf_serial.proofs.run.Run.early_turn.Goals as goal

pub first_turn-requires-clause-threads : goal.first_turn-requires-clause-threads
first_turn-requires-clause-threads c = pointer_within c.args.self.now c.requires.run

pub returns-in-Some-clause-run : goal.returns-in-Some-clause-run
returns-in-Some-clause-run c =
    let r = c.args.self.now in
    first_keeps r c.first_turn.new.self 0 r.pointer c.in-Some.turn c.requires.run (rw c.in-Some.is at c.in_ok-turn.ensures)

pub returns-in-Some-clause-same : goal.returns-in-Some-clause-same
returns-in-Some-clause-same c =
    let r = c.args.self.now in
    first_same r c.first_turn.new.self 0 r.pointer c.in-Some.turn (rw c.in-Some.is at c.in_ok-turn.ensures)

pub returns-in-Some-clause-goes : goal.returns-in-Some-clause-goes
returns-in-Some-clause-goes c =
    let r = c.args.self.now in
    first_before r c.first_turn.new.self c.in-Some.turn c.requires.run c.requires.late (rw c.in-Some.is at c.in_ok-turn.ensures)

pub lead_turn-requires-clause-none : goal.lead_turn-requires-clause-none
lead_turn-requires-clause-none c =
    let r = c.args.self.now in
    early_none r c.first_turn.new.self c.requires.run c.requires.late (rw c.in-None.is at c.in_ok-turn.ensures)
