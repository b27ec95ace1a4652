-- Answers to the goals of `stack::Stack::stop`.
use Rattle.std.proofs.Common.{◌≡◌, ◌∙◌, ap, sym, reverse, List, ◌∷◌, Bool, true, false, cond}
use Rattle.cf_next.specs.declared.parts.Frame.{Frame}
use Rattle.cf_next.specs.Stacks.{code_is_run, code_has_run, code_stop, code_stopped, frames_from}
use Rattle.cf_next.proofs.FrameLaws.{has-view, stop-view, stop-stack}
use Rattle.cf_next.proofs.stack.Stack.stop.Goals as goal

pub invariant_of-self-else-is_run : goal.invariant_of-self-else-is_run
invariant_of-self-else-is_run c =
    let s = c.self.inside in
    stop-stack s.top (reverse s.below.items) (reverse c.stop_below.new.frames.items) s.bindings.rows s.collected.rows s.table c.self.invariant c.stop_below.ensures.frames

pub returns-else-is_run-clause-found : goal.returns-else-is_run-clause-found
returns-else-is_run-clause-found c =
    let s = c.self.inside in
    let none : code_is_run s.top.kind ≡ false = cc in
    rw (← c.self.view_is) (c.stop_below.ensures.found ∙ sym (ap (λ (b : Bool). cond b true (code_has_run (reverse s.below.items))) none) ∙ has-view (s.top ∷ reverse s.below.items) s.bindings.rows s.collected.rows)

pub returns-else-is_run-clause-frames : goal.returns-else-is_run-clause-frames
returns-else-is_run-clause-frames c =
    let s = c.self.inside in
    let none : code_is_run s.top.kind ≡ false = cc in
    rw (← c.self.view_is) (ap (λ (fs : List Frame). frames_from (s.top ∷ fs) s.bindings.rows s.collected.rows) c.stop_below.ensures.frames ∙ sym (ap (λ (b : Bool). frames_from (cond b (record s.top { kind = code_stopped s.top.kind } ∷ reverse s.below.items) (s.top ∷ code_stop (reverse s.below.items))) s.bindings.rows s.collected.rows) none) ∙ stop-view (s.top ∷ reverse s.below.items) s.bindings.rows s.collected.rows)
