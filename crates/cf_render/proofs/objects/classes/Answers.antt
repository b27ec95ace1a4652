-- Answers to the goals of `objects::classes`.
use Rattle.std.proofs.Common.{Some, None, sym, ap, ◌∙◌, append-nil, arith}
use Rattle.cf_render.proofs.Journals.{class_more}
use Rattle.cf_render.proofs.objects.classes.Goals.{in-Some+in_ok-push, in_default}
use Rattle.cf_render.proofs.objects.classes.Goals as goal

pub loop-entry-preserved : goal.loop-entry-preserved
loop-entry-preserved c =
    let i = c.loop-entry.entry-index in
    let e = c.entry-item.result in
    let now = c.loop-entry.classes.items in
    let after = c.match-made.classes.items in
    elim c.match-made.branch [
      | in-Some+in_ok-push w ↦
          class_more c.args.journal.now i e (omega arith) c.entry-item.is c.args.script.now (Some w.in-Some.class) now after (sym c.made.ensures ∙ w.in-Some.is) (ap (λ v. v.items) w.classes-is ∙ w.in_ok-push.ensures.items) c.loop-entry.invariant
      | in_default w ↦
          class_more c.args.journal.now i e (omega arith) c.entry-item.is c.args.script.now None now after (sym c.made.ensures ∙ w.in_default.is) (ap (λ v. v.items) w.classes-is ∙ sym (append-nil now)) c.loop-entry.invariant
    ]
