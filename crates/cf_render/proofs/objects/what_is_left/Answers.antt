-- Answers to the goals of `objects::what_is_left`.
use Rattle.std.proofs.Common.{Some, sym, ap, ◌∙◌, arith}
use Rattle.cf_render.proofs.Journals.{count_more, count_same, none_final, one_final}
use Rattle.cf_render.proofs.objects.what_is_left.Goals.{in-Some, in_default}
use Rattle.cf_render.proofs.objects.what_is_left.Goals as goal

pub loop-entry-preserved : goal.loop-entry-preserved
loop-entry-preserved c =
    let journal = c.args.journal.now in
    let i = c.loop-entry.entry-index in
    let e = c.entry-item.result in
    let now = c.loop-entry.alive.items in
    let after = c.match-final_object.alive.items in
    let before = c.loop-entry.invariant in
    elim c.match-final_object.branch [
      | in-Some w ↦
          let final = sym c.final_object.ensures ∙ w.in-Some.is in
          record {
            left = one_final c.args.made journal i e (omega arith) c.entry-item.is now before.left w.in-Some.object after final (ap (λ v. v.items) w.alive-is ∙ w.finalise.ensures);
            count = w.finals-is ∙ count_more journal i e (omega arith) c.entry-item.is (Some w.in-Some.object) c.loop-entry.finals final before.count;
            few = omega (arith, w.finals-is, before.few);
          }
      | in_default w ↦
          let final = sym c.final_object.ensures ∙ w.in_default.is in
          record {
            left = none_final c.args.made journal i e (omega arith) c.entry-item.is now before.left after final (ap (λ v. v.items) w.alive-is);
            count = w.finals-is ∙ count_same journal i e (omega arith) c.entry-item.is c.loop-entry.finals final before.count;
            few = omega (arith, w.finals-is, before.few);
          }
    ]
