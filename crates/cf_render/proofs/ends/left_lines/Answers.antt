-- Answers to the goals of `ends::left_lines`.
use Rattle.std.proofs.Common.{ap, ◌∙◌, arith}
use Rattle.cf_render.specs.Ends.{alive_in, owners_in, slots_in}
use Rattle.cf_render.proofs.Leaving.{left_off, left_on}
use Rattle.cf_render.proofs.ends.left_lines.Goals.{then-alive-number+in_ok-line+in_ok-push, else-alive-number}
use Rattle.cf_render.proofs.ends.left_lines.Goals as goal

pub loop-number-preserved : goal.loop-number-preserved
loop-number-preserved c =
    let names = c.args.script.now.classes in
    let cs = c.args.classes.now in
    let i = c.loop-number.number in
    let alive = alive_in c.args.alive.now in
    let owners = owners_in c.args.tallies.now in
    let slots = slots_in c.args.tallies.now in
    let lines = c.loop-number.lines.items in
    let after = c.if-alive-number.lines.items in
    elim c.if-alive-number.branch [
      | then-alive-number+in_ok-line+in_ok-push w ↦
          left_on names cs i w.index-classes-number.result alive owners slots lines after w.in_ok-line.line (omega arith) w.index-classes-number.is w.if-alive-number.true w.in_ok-line.ensures (ap (λ v. v.items) w.lines-is ∙ w.in_ok-push.ensures.items) c.loop-number.invariant
      | else-alive-number w ↦
          left_off names cs i alive owners slots lines after (omega arith) w.if-alive-number.false (ap (λ v. v.items) w.lines-is) c.loop-number.invariant
    ]
