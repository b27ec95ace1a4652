-- Answers to the goals of `stack::Stack::run`.
use Rattle.std.proofs.Common.{◌≡◌, ◌∙◌, ap, sym, reverse, ◌∷◌, false}
use Rattle.std.specs.Option.{option_map}
use Rattle.cf_next.specs.Stacks.{code_is_run, code_run}
use Rattle.cf_next.specs.Views.{turn_of}
use Rattle.cf_next.proofs.FrameLaws.{run-view}
use Rattle.cf_next.proofs.StackLaws.{run-or-none}
use Rattle.cf_next.proofs.stack.Stack.run.Goals as goal

pub returns-else-is_run : goal.returns-else-is_run
returns-else-is_run c =
    let s = c.self.inside in
    let none : code_is_run s.top.kind ≡ false = cc in
    rw (← c.self.view_is) (ap (option_map turn_of) (c.run_below.ensures ∙ ap (λ fs. code_run (reverse fs)) c.as_slice.ensures.value ∙ sym (run-or-none s.top.kind (code_run (reverse s.below.items)) none)) ∙ run-view (s.top ∷ reverse s.below.items) s.bindings.rows s.collected.rows)
