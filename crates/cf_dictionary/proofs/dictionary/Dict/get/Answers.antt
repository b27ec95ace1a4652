-- Answers to the goals of `dictionary::Dict::get`.
use Rattle.std.proofs.Common.{sym, ◌∙◌, refl}
use Rattle.std.proofs.lemmas.Option.{none-some}
use Rattle.cf_basichash.proofs.TablesLemmas.{found, missing, value_found}
use Rattle.cf_dictionary.proofs.dictionary.Dict.get.Goals as goal

pub returns-in_err-place : goal.returns-in_err-place
returns-in_err-place g c =
    rw (
      c.from_residual.ensures,
      ← c.self.view_is,
      (missing _ c.self.inside.rows.rows (sym c.find.ensures ∙ c.in_err-place.was)).value,
    )

pub returns-in_err-value : goal.returns-in_err-value
returns-in_err-value g c =
    let row = found _ c.self.inside.rows.rows _ (sym c.find.ensures ∙ c.in_ok-place.was) in
    absurd (none-some row.0 ((rw c.in_err-value.was at c.row.ensures) ∙ row.1.there))

pub returns : goal.returns
returns g c = rw (← c.self.view_is) (sym (value_found _ c.self.inside.rows.rows _ _
    (sym c.find.ensures ∙ c.in_ok-place.was) (rw (← (rw c.in_ok-value.was at c.row.ensures)) refl)))
