-- Answers to the goals of `change::add_one`.
use Rattle.std.proofs.Common.{◌≡◌, ◌∙◌, ◌+◌, ℕ, ap, Some, None, slice_set, arith}
use Rattle.cf_basichash.specs.Tables.{place_of}
use Rattle.cf_contents.specs.Keys.{equal_to}
use Rattle.cf_plain.proofs.Placing.{one_more_there, one_more_none}
use Rattle.cf_plain.proofs.change.add_one.Goals as goal

pub returns-in-Some-checked_add : goal.returns-in-Some-checked_add
returns-in-Some-checked_add c =
    let at : place_of (equal_to c.args.plain c.args.element) c.args.rows.now.items ≡ Some c.in-Some.place = cc in
    let more : c.in-Some-checked_add.more ≡ c.index_mut-row.result.now.1 + 1 = omega (arith, c.in-Some-checked_add.ensures) in ap (λ (n : ℕ). slice_set c.args.rows.now.items c.in-Some.place (c.index_mut-row.result.now.0, n)) more ∙ one_more_there (equal_to c.args.plain c.args.element) c.args.rows.now.items c.in-Some.place c.index_mut-row.result.now c.args.element at c.index_mut-row.ensures.value

pub returns-in_ok-push-in-None : goal.returns-in_ok-push-in-None
returns-in_ok-push-in-None c =
    let at : place_of (equal_to c.args.plain c.args.element) c.args.rows.now.items ≡ None = cc in
    c.in_ok-push-in-None.ensures.items ∙ one_more_none (equal_to c.args.plain c.args.element) c.args.rows.now.items c.args.element at
