-- Answers to the goals of `rows::remove_row`.
use Rattle.std.proofs.Common.{sym, ◌∙◌}
use Rattle.cf_basichash.proofs.TablesLemmas.{found, missing, row_found}
use Rattle.cf_set_bag.proofs.rows.remove_row.Goals as goal

pub returns-in_err-place-clause-answer : goal.returns-in_err-place-clause-answer
returns-in_err-place-clause-answer g c =
    rw (c.from_residual.ensures, (missing _ c.args.rows.now.rows (sym c.find.ensures ∙ c.in_err-place.was)).entry)

pub returns-in_err-place-clause-rows : goal.returns-in_err-place-clause-rows
returns-in_err-place-clause-rows g c = sym (missing _ c.args.rows.now.rows
    (sym c.find.ensures ∙ c.in_err-place.was)).removed

pub returns-clause-answer : goal.returns-clause-answer
returns-clause-answer g c = c.remove.ensures.out ∙ row_found _ c.args.rows.now.rows _
    (sym c.find.ensures ∙ c.in_ok-place.was)

pub returns-clause-rows : goal.returns-clause-rows
returns-clause-rows g c =
    let row = found _ c.args.rows.now.rows _ (sym c.find.ensures ∙ c.in_ok-place.was) in
    rw (← row.1.removed) (rw (c.remove.ensures.out, row.1.there) at c.remove.ensures.rows)
