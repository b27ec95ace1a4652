-- Answers to the goals of `held::count_lines`.
use Rattle.std.proofs.Common.{◌∙◌, take, sym, ap, arith}
use Rattle.std.specs.Option.{option_map}
use Rattle.cf_next.specs.Demands.{frame_lines}
use Rattle.cf_next.specs.Lines.{line_of}
use Rattle.cf_next.specs.Views.{block_in, kind_of}
use Rattle.cf_next.proofs.HeldLaws.{counted-line, counted-none, room-for-line}
use Rattle.cf_next.proofs.held.count_lines.Goals as goal
use Rattle.cf_next.proofs.held.count_lines.Goals.{in-Some, in_default}

pub count-requires : goal.count-requires
count-requires c =
    room-for-line c.loop-k.counts (frame_lines c.args.script.now (kind_of c.args.kind.now) (block_in c.args.kind.now)) c.loop-k.k c.loop-k.invariant
    (omega (arith, c.loop-k-test.true, c.ranges.number.fits))

pub loop-k-preserved : goal.loop-k-preserved
loop-k-preserved c =
    let lines = frame_lines c.args.script.now (kind_of c.args.kind.now) (block_in c.args.kind.now) in
    let k = c.loop-k.k in
    elim c.match-kind_line.branch [
      | in-Some w ↦
          let x = line_of w.in-Some.line in
          rw w.counts-is (counted-line w.count.new.self lines k x (sym c.kind_line.ensures ∙ ap (option_map line_of) w.in-Some.is) (w.count.ensures.counted (take k lines) x (sym w.ownership.ensures) c.loop-k.invariant))
      | in_default w ↦ rw w.counts-is (counted-none c.loop-k.counts lines k (sym c.kind_line.ensures ∙ ap (option_map line_of) w.in_default.is) c.loop-k.invariant)
    ]
