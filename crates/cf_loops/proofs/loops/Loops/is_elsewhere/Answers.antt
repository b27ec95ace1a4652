use Rattle.std.proofs.Common.{◌<◌, List, length, arith, refl, sym, ap}
use Rattle.rl_modes.specs.Loops.{Loop}
use Rattle.cf_loops.proofs.Looking.{at_read}
use Rattle.cf_loops.proofs.Summing.{found_elsewhere, not_elsewhere, other_held}
use Rattle.cf_loops.proofs.loops.Loops.is_elsewhere.Goals as goal

pub returns-then-is_held : goal.returns-then-is_held
returns-then-is_held c = λ s st h.
    let same = ap (λ (ls : List Loop). length ls) c.self.view_is in
    let within : c.loop-w.w < length c.args.self.now = omega (arith, c.self.inside.loops.ok.0, same, c.loop-w-test.true) in
    let is = at_read c.args.self.now c.self.inside.loops.items c.loop-w.w c.loop-w.w c.index.result.now c.self.view_is refl within c.index.ensures in
    sym (found_elsewhere s st c.args.self.now c.args.t c.args.i h c.loop-w.w within
    (other_held c.args.i c.args.self.now c.loop-w.w c.args.t c.t.inside.0 c.index.result.now c.is_held.result c.if-w-t.true c.t.view_is c.is_held.ensures c.if-is_held.true is))

pub returns : goal.returns
returns c = λ s st h.
    let same = ap (λ (ls : List Loop). length ls) c.self.view_is in
    sym (not_elsewhere s st c.args.self.now c.args.t c.args.i h (λ w lt. c.loop-w.invariant w (omega (arith, c.self.inside.loops.ok.0, same, c.loop-w-test.false, lt))))
