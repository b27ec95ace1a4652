-- Answers to the goals of `stack::Stack::frame`.
use Rattle.std.proofs.Common.{◌≡◌, ◌<◌, ◌∷◌, ◌∙◌, length, reverse, sym, arith}
use Rattle.std.proofs.lemmas.List.{length-reverse}
use Rattle.cf_next.proofs.DepthLaws.{at-kept, at-topmost, is-frame-at}
use Rattle.cf_next.proofs.FrameLaws.{frames-size}
use Rattle.cf_next.proofs.stack.Stack.frame.Goals as goal

pub returns-then-depth-len : goal.returns-then-depth-len
returns-then-depth-len c =
    let s = c.self.inside in
    let x = c.index.result.now in
    let lt = rw (← c.self.view_is) at c.requires in
    let within : c.args.depth < length s.below.items = omega (arith, c.if-depth-len.true, c.len.ensures, s.below.ok.0) in
    rw (← c.self.view_is)
    (is-frame-at x s.top s.below.items s.bindings.rows s.collected.rows c.args.depth c.self.invariant.bindings_each c.self.invariant.collected_each lt
    (at-kept s.top x s.top s.below.items c.args.depth within ∙ sym c.index.ensures))

pub returns-else-depth-len : goal.returns-else-depth-len
returns-else-depth-len c =
    let s = c.self.inside in
    let lt = rw (← c.self.view_is) at c.requires in
    let last : c.args.depth ≡ length s.below.items =
    omega (arith, lt, frames-size (s.top ∷ reverse s.below.items) s.bindings.rows s.collected.rows, length-reverse s.below.items, c.if-depth-len.false, c.len.ensures, s.below.ok.0) in
    rw (← c.self.view_is)
    (is-frame-at s.top s.top s.below.items s.bindings.rows s.collected.rows c.args.depth c.self.invariant.bindings_each c.self.invariant.collected_each lt
    (at-topmost s.top s.top s.below.items c.args.depth last))
