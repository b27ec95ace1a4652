-- Answers to the goals of `stack::Stack::pop`.
use Rattle.std.proofs.Common.{◌≡◌, ◌∙◌, ap, List, drop}
use Rattle.cf_next.specs.declared.parts.Bound.{Bound}
use Rattle.cf_next.specs.Stands.{look}
use Rattle.cf_next.specs.Grids.{top_row}
use Rattle.cf_next.specs.Views.{bindings_of}
use Rattle.cf_next.proofs.FrameLaws.{pop-stack}
use Rattle.cf_next.proofs.stack.Stack.pop.Goals as goal

pub invariant_of-self : goal.invariant_of-self
invariant_of-self c =
    let s = c.self.inside in
    let rows : c.top.result.now ≡ top_row (drop 1 s.bindings.rows) = c.top.ensures ∙ ap (λ (rs : List (List Bound)). top_row rs) c.pop_row.ensures.rows in
    rw (c.pop_row.ensures.rows, c.pop_row-in-Some.ensures.rows) (pop-stack c.in-Some.frame s.top s.below.items c.pop.new.self.items s.bindings.rows s.collected.rows s.table c.fill.new.table c.self.invariant c.in-Some.ensures.items c.fill.ensures.size (λ v. c.fill.ensures.cells v ∙ ap (λ (r : List Bound). look v (bindings_of r)) rows))
