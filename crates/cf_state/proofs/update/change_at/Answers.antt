-- Answers to the goals of `update::change_at`.
use Rattle.std.proofs.Common.{◌≡◌, ◌<◌, length, ap, ◌∙◌, arith}
use Rattle.std.proofs.lemmas.Result.{on_ok_weaker}
use Rattle.cf_contents.specs.Deeds.{object_after}
use Rattle.cf_plain.specs.Views.{change_of}
use Rattle.cf_state.proofs.Altering.{changed-at, changed-past}
use Rattle.cf_state.proofs.update.change_at.Goals as goal

pub returns-then-len-place-clause-objects : goal.returns-then-len-place-clause-objects
returns-then-len-place-clause-objects c =
    changed-past c.args.place (change_of c.args.change) c.args.objects.now.items (omega arith)

pub returns-clause-objects : goal.returns-clause-objects
returns-clause-objects c =
    let o = c.args.place in
    let objects = c.args.objects.now.items in
    let change = change_of c.args.change in
    let lt : o < length objects = omega arith in
    on_ok_weaker c.change-2.result
    (λ (made : c.change-2.new.self ≡ object_after change c.index_mut.result.now).
    changed-at o change objects c.index_mut.result.now c.change-2.new.self lt c.index_mut.ensures.value made)
    c.change-2.ensures
