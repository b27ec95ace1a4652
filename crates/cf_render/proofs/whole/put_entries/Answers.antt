-- Answers to the goals of `whole::put_entries`.
use Rattle.std.proofs.Common.{sym, ap, ◌∙◌, arith}
use Rattle.cf_render.proofs.Texts.{entry_passed, entry_written}
use Rattle.cf_render.proofs.whole.put_entries.Goals.{then-is_written+in_ok-put_line, else-is_written}
use Rattle.cf_render.proofs.whole.put_entries.Goals as goal

pub loop-entry-preserved : goal.loop-entry-preserved
loop-entry-preserved c =
    let s = c.args.script.now in
    let journal = c.args.journal.now in
    let i = c.loop-entry.entry-index in
    let e = c.entry-item.result in
    let before = c.args.text.now.items in
    let now = c.loop-entry.text.items in
    let after = c.if-is_written.text.items in
    elim c.if-is_written.branch [
      | then-is_written+in_ok-put_line w ↦
          entry_written s c.args.full journal i e (omega arith) c.entry-item.is before now after (sym c.is_written.ensures ∙ w.if-is_written.true) (ap (λ v. v.items) w.text-is ∙ w.in_ok-put_line.ensures) c.loop-entry.invariant
      | else-is_written w ↦
          entry_passed s c.args.full journal i e (omega arith) c.entry-item.is before now after (sym c.is_written.ensures ∙ w.if-is_written.false) (ap (λ v. v.items) w.text-is) c.loop-entry.invariant
    ]
