-- Answers to the goals of `dictionary::Dict::remove`.
use Rattle.std.proofs.Common.{sym, ◌∙◌}
use Rattle.cf_basichash.proofs.TablesLemmas.{found, missing, row_found}
use Rattle.cf_dictionary.proofs.dictionary.Dict.remove.Goals as goal

pub returns-in_err-place-clause-answer : goal.returns-in_err-place-clause-answer
returns-in_err-place-clause-answer g c =
    rw (← c.self.view_is, (missing _ c.self.inside.rows.rows (sym c.find.ensures ∙ c.in_err-place.was)).entry)
    c.from_residual.ensures

pub returns-in_err-place-clause-rows : goal.returns-in_err-place-clause-rows
returns-in_err-place-clause-rows g c =
    rw (← c.self.view_is) (sym (missing _ c.self.inside.rows.rows (sym c.find.ensures ∙ c.in_err-place.was)).removed)

pub returns-clause-answer : goal.returns-clause-answer
returns-clause-answer g c =
    rw (← c.self.view_is) (c.remove.ensures.out
    ∙ row_found _ c.self.inside.rows.rows _ (sym c.find.ensures ∙ c.in_ok-place.was))

pub returns-clause-rows : goal.returns-clause-rows
returns-clause-rows g c =
    let row = found _ c.self.inside.rows.rows _ (sym c.find.ensures ∙ c.in_ok-place.was) in
    rw (← c.self.view_is, ← row.1.removed) (rw (c.remove.ensures.out, row.1.there) at c.remove.ensures.rows)
