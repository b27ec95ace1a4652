-- Answers to the goals of `dictionary::Dict::replace`.
use Rattle.std.proofs.Common.{sym, ◌∙◌}
use Rattle.cf_basichash.proofs.TablesLemmas.{missing, value_found, revalued_found}
use Rattle.cf_dictionary.proofs.dictionary.Dict.replace.Goals as goal

pub returns-in-Some-clause-answer : goal.returns-in-Some-clause-answer
returns-in-Some-clause-answer g c =
    rw (
      ← c.self.view_is,
      value_found _ c.self.inside.rows.rows _ _ (sym c.find.ensures ∙ c.in-Some.is)
          c.swap_value.ensures.out,
    )

pub returns-in-Some-clause-rows : goal.returns-in-Some-clause-rows
returns-in-Some-clause-rows g c =
    rw (← c.self.view_is) (revalued_found _ c.self.inside.rows _ _ _ (sym c.find.ensures ∙ c.in-Some.is)
    c.swap_value.ensures.rows)

pub returns-in-None-clause-answer : goal.returns-in-None-clause-answer
returns-in-None-clause-answer g c =
    rw (← c.self.view_is, (missing _ c.self.inside.rows.rows (sym c.find.ensures ∙ c.in-None.is)).value)

pub returns-in-None-clause-rows : goal.returns-in-None-clause-rows
returns-in-None-clause-rows g c =
    rw (← c.self.view_is, (missing _ c.self.inside.rows.rows (sym c.find.ensures ∙ c.in-None.is)).revalued c.args.v)
