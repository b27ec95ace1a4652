-- Answers to the goals of `numbers::raise_all`.
use Rattle.std.proofs.Common.{take, sym, arith}
use Rattle.cf_serial.proofs.Raising.{raised_more, times-at, times_le-length}
use Rattle.std.proofs.lemmas.List.{length-take}
use Rattle.cf_serial.proofs.numbers.raise_all.Goals as goal

pub raise_one-requires-clause-made : goal.raise_one-requires-clause-made
raise_one-requires-clause-made c =
    let i = c.loop-o.o-index in
    let o = c.o-item.result in
    omega (arith, c.loop-o.invariant.size, c.requires.made o (times-at c.args.gained.now i o o (omega arith) (sym c.o-item.is)))

pub raise_one-requires-clause-fits : goal.raise_one-requires-clause-fits
raise_one-requires-clause-fits c =
    let i = c.loop-o.o-index in
    let o = c.o-item.result in
    let made = c.requires.made o (times-at c.args.gained.now i o o (omega arith) (sym c.o-item.is)) in
    omega (arith, c.loop-o.invariant.at o made, c.requires.fits o made, times_le-length o (take i c.args.gained.now), length-take i c.args.gained.now)

pub loop-o-preserved : goal.loop-o-preserved
loop-o-preserved c =
    let i = c.loop-o.o-index in
    let o = c.o-item.result in
    let made = c.requires.made o (times-at c.args.gained.now i o o (omega arith) (sym c.o-item.is)) in
    raised_more c.args.references.now.items c.args.gained.now i o c.loop-o.references.items c.raise_one.new.references.items (omega arith) c.o-item.is made c.raise_one.ensures c.loop-o.invariant
