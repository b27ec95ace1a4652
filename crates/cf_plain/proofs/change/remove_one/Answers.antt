-- Answers to the goals of `change::remove_one`.
use Rattle.std.proofs.Common.{◌≡◌, ◌∙◌, ap, ℕ, Some, None, slice_set, arith}
use Rattle.std.proofs.lemmas.Bool.{ne_eqb}
use Rattle.cf_basichash.specs.Tables.{place_of}
use Rattle.cf_contents.specs.Keys.{equal_to}
use Rattle.cf_plain.proofs.Placing.{less_last, less_other, less_none}
use Rattle.cf_plain.proofs.change.remove_one.Goals as goal

pub returns-then-count-eq1 : goal.returns-then-count-eq1
returns-then-count-eq1 c =
    let at : place_of (equal_to c.args.plain c.args.element.now) c.args.rows.now.items ≡ Some c.in-Some.place = cc in
    c.remove.ensures.items ∙ less_last (equal_to c.args.plain c.args.element.now) c.args.rows.now.items c.in-Some.place c.index.result.now at c.index.ensures (omega arith)

pub returns-else-count-eq1 : goal.returns-else-count-eq1
returns-else-count-eq1 c =
    let at : place_of (equal_to c.args.plain c.args.element.now) c.args.rows.now.items ≡ Some c.in-Some.place = cc in
    ap (λ (n : ℕ). slice_set c.args.rows.now.items c.in-Some.place (c.index_mut-row.result.now.0, n)) c.saturating_sub-row.ensures
    ∙ less_other (equal_to c.args.plain c.args.element.now) c.args.rows.now.items c.in-Some.place c.index.result.now c.index_mut-row.result.now at c.index.ensures c.index_mut-row.ensures.value (ne_eqb _ _ c.if-count-eq1.false)

pub returns-in_default : goal.returns-in_default
returns-in_default c =
    let at : place_of (equal_to c.args.plain c.args.element.now) c.args.rows.now.items ≡ None = cc in
    less_none (equal_to c.args.plain c.args.element.now) c.args.rows.now.items at
