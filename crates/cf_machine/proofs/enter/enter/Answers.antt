-- Answers to the goals of `enter::enter`.
use Rattle.cf_state.specs.States.{state_of}
use Rattle.cf_machine.proofs.Entering.{step-legal-if, step-after-if}
use Rattle.cf_machine.proofs.enter.enter.Goals as goal

pub returns-in_default : goal.returns-in_default
returns-in_default c =
    let s = c.args.script.now in
    let st = state_of c.args.state.now in
    let e = c.args.entry.now in record {
      legal = step-legal-if c.enter_step.result s st e c.in_default.not-Tick c.in_default.not-Stall c.enter_step.ensures.legal;
      state = step-after-if _ c.enter_step.result s st (state_of c.enter_step.new.state) e c.in_default.not-Tick c.in_default.not-Stall c.enter_step.ensures.state;
    }
