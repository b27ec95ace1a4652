-- Answers to the goals of `stack::Stack::count`.
use Rattle.std.proofs.Common.{◌∷◌, reverse, arith}
use Rattle.std.proofs.lemmas.List.{length-reverse}
use Rattle.cf_next.proofs.FrameLaws.{frames-size}
use Rattle.cf_next.proofs.stack.Stack.count.Goals as goal

pub returns : goal.returns
returns c =
    let s = c.self.inside in
    rw (← c.self.view_is)
    (omega (arith, frames-size (s.top ∷ reverse s.below.items) s.bindings.rows s.collected.rows, length-reverse s.below.items, s.below.ok.0, c.len.ensures))
