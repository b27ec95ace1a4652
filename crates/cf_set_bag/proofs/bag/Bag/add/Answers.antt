-- Answers to the goals of `bag::Bag::add`.
use Rattle.std.proofs.Common.{◌≡◌, false, ◌==◌, sym, ◌∙◌, ap, add-zero, arith}
use Rattle.cf_basichash.proofs.TablesLemmas.{missing, revalued_found}
use Rattle.cf_set_bag.proofs.Counting.{number_found}
use Rattle.cf_set_bag.proofs.bag.Bag.add.Goals as goal

pub returns-in_default-clause-answer : goal.returns-in_default-clause-answer
returns-in_default-clause-answer g c =
    rw (← c.self.view_is, (missing _ c.self.inside.rows.rows (sym c.find.ensures ∙ c.in_default.is)).value)

pub returns-in_default-clause-rows : goal.returns-in_default-clause-rows
returns-in_default-clause-rows g c =
    rw (← c.self.view_is, (missing _ c.self.inside.rows.rows (sym c.find.ensures ∙ c.in_default.is)).value)
    (rw c.unwrap.ensures at c.add.ensures.rows)

pub returns-in_default-clause-room : goal.returns-in_default-clause-room
returns-in_default-clause-room g c =
    rw (← c.self.view_is, (missing _ c.self.inside.rows.rows (sym c.find.ensures ∙ c.in_default.is)).value)
    (rw c.unwrap.ensures at c.add.ensures.room)

pub returns-then-number-clause-answer : goal.returns-then-number-clause-answer
returns-then-number-clause-answer g c =
    rw (
      ← c.self.view_is,
      number_found _ c.self.inside.rows.rows _ _ (sym c.find.ensures ∙ c.in-Some.is)
          c.number_at-number.ensures,
      c.if-number.true,
    )

pub returns-then-number-clause-rows : goal.returns-then-number-clause-rows
returns-then-number-clause-rows g c =
    rw (
      ← c.self.view_is,
      number_found _ c.self.inside.rows.rows _ _ (sym c.find.ensures ∙ c.in-Some.is)
          c.number_at-number.ensures,
      c.if-number.true,
    )

pub returns-then-number-clause-room : goal.returns-then-number-clause-room
returns-then-number-clause-room g c =
    rw (
      ← c.self.view_is,
      number_found _ c.self.inside.rows.rows _ _ (sym c.find.ensures ∙ c.in-Some.is)
          c.number_at-number.ensures,
      add-zero,
    )

pub returns-clause-answer : goal.returns-clause-answer
returns-clause-answer g c =
    let below : c.number_at-number.result == 4294967295 ≡ false = grind (arith, c.if-number.false) in
    rw (
      ← c.self.view_is,
      number_found _ c.self.inside.rows.rows _ _ (sym c.find.ensures ∙ c.in-Some.is)
          c.number_at-number.ensures,
      below,
    )

pub returns-clause-rows : goal.returns-clause-rows
returns-clause-rows g c =
    let below : c.number_at-number.result == 4294967295 ≡ false = grind (arith, c.if-number.false) in
    rw (
      ← c.self.view_is,
      number_found _ c.self.inside.rows.rows _ _ (sym c.find.ensures ∙ c.in-Some.is)
          c.number_at-number.ensures,
      below,
    )
    (ap (λ table. table.rows) (revalued_found _ c.self.inside.rows _ _ _ (sym c.find.ensures ∙ c.in-Some.is)
    c.swap_value.ensures.rows))

pub returns-clause-room : goal.returns-clause-room
returns-clause-room g c =
    rw (
      ← c.self.view_is,
      number_found _ c.self.inside.rows.rows _ _ (sym c.find.ensures ∙ c.in-Some.is)
          c.number_at-number.ensures,
      add-zero,
    )
    (ap (λ table. table.room) (revalued_found _ c.self.inside.rows _ _ _ (sym c.find.ensures ∙ c.in-Some.is)
    c.swap_value.ensures.rows))
