-- Answers to the goals of `enter::enter_left`.
use Rattle.cf_state.specs.States.{state_of}
use Rattle.cf_machine.proofs.Entering.{acted-is, entered-grows, legal-is}
use Rattle.cf_machine.proofs.Rooming.{number-of}
use Rattle.cf_machine.proofs.enter.enter_left.Goals as goal

pub go_on-requires-clause-number : goal.go_on-requires-clause-number
go_on-requires-clause-number c =
    number-of c.args.script.now (state_of c.args.state.now) c.args.entry.now c.args.step.now c.args.left.done
    c.requires.next c.requires.done c.requires.room

pub returns-clause-state : goal.returns-clause-state
returns-clause-state c = λ yes.
    let s = c.args.script.now in
    let st = state_of c.args.state.now in
    let e = c.args.entry.now in
    let x = c.args.step.now in
    let done = c.args.left.done in
    let asked = legal-is s st e x done c.requires.next c.requires.done c.may_enter.result c.may_enter.ensures in
    let legal = asked.0 c.if-not-may_enter.false in (
      acted-is s st e x done (state_of c.go_on.new.state) c.requires.next c.requires.done legal c.in_ok-go_on.ensures,
      entered-grows e.thread x e.answer done st (state_of c.go_on.new.state) c.in_ok-go_on.ensures,
    )
