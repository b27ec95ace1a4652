-- Answers to the goals of `coming::next_step`.
use Rattle.std.proofs.Common.{◌≡◌, false, sym, ap, ◌∙◌}
use Rattle.cf_model.specs.Journals.{can_go}
use Rattle.cf_state.specs.States.{state_of}
use Rattle.cf_machine.proofs.Asking.{resting}
use Rattle.cf_machine.proofs.coming.next_step.Goals as goal

pub returns-else-can_go : goal.returns-else-can_go
returns-else-can_go c =
    let st = state_of c.args.state.now in
    let t = c.args.entry.now.thread in
    let rests : can_go st t ≡ false = ap (can_go st) (sym c.thread_of.ensures) ∙ sym c.can_go.ensures ∙ c.if-can_go.false in
    resting c.args.script.now st t c.args.entry.now.action rests
