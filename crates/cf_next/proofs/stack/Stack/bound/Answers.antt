-- Answers to the goals of `stack::Stack::bound`.
use Rattle.std.proofs.Common.{◌<◌, ◌∷◌, ◌∙◌, List, length, reverse, sym, ap, arith}
use Rattle.cf_next.specs.declared.parts.Bound.{Bound}
use Rattle.cf_next.specs.Stands.{Frame}
use Rattle.cf_next.specs.Views.{bindings_of}
use Rattle.cf_next.proofs.DepthLaws.{frame-at}
use Rattle.cf_next.proofs.FrameLaws.{frames-size}
use Rattle.cf_next.proofs.stack.Stack.bound.Goals as goal

pub row-requires : goal.row-requires
row-requires c =
    let s = c.self.inside in
    let lt = rw (← c.self.view_is) at c.requires in
    omega (arith, lt, frames-size (s.top ∷ reverse s.below.items) s.bindings.rows s.collected.rows, c.self.invariant.bindings_each)

pub returns : goal.returns
returns c =
    let s = c.self.inside in
    let lt = rw (← c.self.view_is) at c.requires in
    let within : c.args.depth < length (s.top ∷ reverse s.below.items) = omega (arith, lt, frames-size (s.top ∷ reverse s.below.items) s.bindings.rows s.collected.rows) in
    rw (← c.self.view_is)
    (ap (λ (r : List Bound). bindings_of r) c.row.ensures
    ∙ sym (ap (λ (f : Frame). f.bindings) (frame-at s.top (s.top ∷ reverse s.below.items) s.bindings.rows s.collected.rows c.args.depth c.self.invariant.bindings_each c.self.invariant.collected_each within)))
