-- Answers to the goals of `dictionary::Dict::set`.
use Rattle.std.proofs.Common.{sym, ◌∙◌, ap, add-zero}
use Rattle.cf_basichash.proofs.TablesLemmas.{missing, value_found, revalued_found}
use Rattle.cf_dictionary.proofs.dictionary.Dict.set.Goals as goal

pub returns-in-Some-clause-answer : goal.returns-in-Some-clause-answer
returns-in-Some-clause-answer g c =
    rw (
      ← c.self.view_is,
      value_found _ c.self.inside.rows.rows _ _ (sym c.find.ensures ∙ c.in-Some.is)
          c.swap_value-old.ensures.out,
    )

pub returns-in-Some-clause-rows : goal.returns-in-Some-clause-rows
returns-in-Some-clause-rows g c =
    rw (
      ← c.self.view_is,
      value_found _ c.self.inside.rows.rows _ _ (sym c.find.ensures ∙ c.in-Some.is)
          c.swap_value-old.ensures.out,
    ) (ap (λ table. table.rows)
    (revalued_found _ c.self.inside.rows _ _ _ (sym c.find.ensures ∙ c.in-Some.is) c.swap_value-old.ensures.rows))

pub returns-in-Some-clause-room : goal.returns-in-Some-clause-room
returns-in-Some-clause-room g c =
    rw (
      ← c.self.view_is,
      value_found _ c.self.inside.rows.rows _ _ (sym c.find.ensures ∙ c.in-Some.is)
          c.swap_value-old.ensures.out,
      add-zero,
    ) (ap (λ table. table.room) (revalued_found _ c.self.inside.rows _ _ _ (sym c.find.ensures ∙ c.in-Some.is)
    c.swap_value-old.ensures.rows))

pub returns-in-Some-clause-callbacks : goal.returns-in-Some-clause-callbacks
returns-in-Some-clause-callbacks g c =
    rw (← c.self.view_is) (ap (λ table. table.callbacks)
    (revalued_found _ c.self.inside.rows _ _ _ (sym c.find.ensures ∙ c.in-Some.is) c.swap_value-old.ensures.rows))

pub returns-in-None-clause-answer : goal.returns-in-None-clause-answer
returns-in-None-clause-answer g c =
    rw (← c.self.view_is, (missing _ c.self.inside.rows.rows (sym c.find.ensures ∙ c.in-None.is)).value)

pub returns-in-None-clause-rows : goal.returns-in-None-clause-rows
returns-in-None-clause-rows g c =
    rw (← c.self.view_is, (missing _ c.self.inside.rows.rows (sym c.find.ensures ∙ c.in-None.is)).value)
    (rw c.unwrap.ensures at c.add.ensures.rows)

pub returns-in-None-clause-room : goal.returns-in-None-clause-room
returns-in-None-clause-room g c =
    rw (← c.self.view_is, (missing _ c.self.inside.rows.rows (sym c.find.ensures ∙ c.in-None.is)).value)
    (rw c.unwrap.ensures at c.add.ensures.room)
