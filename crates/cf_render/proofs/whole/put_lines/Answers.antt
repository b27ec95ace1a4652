-- Answers to the goals of `whole::put_lines`.
use Rattle.std.proofs.Common.{◌++◌, ap, ◌∙◌, arith}
use Rattle.cf_render.proofs.Texts.{line_more}
use Rattle.cf_render.proofs.whole.put_lines.Goals as goal

pub loop-line-preserved : goal.loop-line-preserved
loop-line-preserved c =
    let now = c.loop-line.text.items in
    line_more c.args.lines.now c.loop-line.line-index c.line-item.result c.args.text.now.items now c.extend_from_slice.new.self.items c.push.new.self.items (omega arith) c.line-item.is
    (c.in_ok-extend_from_slice.ensures.items ∙ ap (λ xs. now ++ xs) c.deref.ensures.value) c.in_ok-push.ensures.items c.loop-line.invariant
