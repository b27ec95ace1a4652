-- Answers to the goals of `bag::Bag::remove`.
use Rattle.std.proofs.Common.{◌≡◌, false, ◌==◌, sym, ◌∙◌, ap, add-zero, arith, ◌<◌, Some}
use Rattle.std.proofs.lemmas.Option.{none-some, same_Some}
use Rattle.cf_basichash.proofs.TablesLemmas.{found, missing, revalued_found}
use Rattle.cf_set_bag.specs.declared.bag.BagRemove.TheVariants.{Gone}
use Rattle.cf_set_bag.proofs.Counting.{counted_at, counted_removed, number_found}
use Rattle.cf_set_bag.proofs.bag.Bag.remove.Goals as goal
use Rattle.cf_set_bag.proofs.bag.Bag.remove.Goals.{in-Some-remove, in-None}

pub returns-in_default-clause-answer : goal.returns-in_default-clause-answer
returns-in_default-clause-answer g c =
    rw (← c.self.view_is, (missing _ c.self.inside.rows.rows (sym c.find.ensures ∙ c.in_default.is)).entry)

pub returns-in_default-clause-rows : goal.returns-in_default-clause-rows
returns-in_default-clause-rows g c =
    rw (← c.self.view_is, (missing _ c.self.inside.rows.rows (sym c.find.ensures ∙ c.in_default.is)).value)

pub returns-in_default-clause-room : goal.returns-in_default-clause-room
returns-in_default-clause-room g c =
    rw (← c.self.view_is, (missing _ c.self.inside.rows.rows (sym c.find.ensures ∙ c.in_default.is)).value, add-zero)

pub returns-then-number-gt1-clause-answer : goal.returns-then-number-gt1-clause-answer
returns-then-number-gt1-clause-answer g c =
    let row = found _ c.self.inside.rows.rows _ (sym c.find.ensures ∙ c.in-Some.is) in
    let same : row.0.1 ≡ c.number_at-number.result = same_Some _ _ (rw row.1.there at c.number_at-number.ensures) in
    let more : c.number_at-number.result == 1 ≡ false = grind arith in
    rw (← c.self.view_is, row.1.entry, same, more)

pub returns-then-number-gt1-clause-rows : goal.returns-then-number-gt1-clause-rows
returns-then-number-gt1-clause-rows g c =
    let more : c.number_at-number.result == 1 ≡ false = grind arith in
    rw (
      ← c.self.view_is,
      number_found _ c.self.inside.rows.rows _ _ (sym c.find.ensures ∙ c.in-Some.is)
          c.number_at-number.ensures,
      more,
    )
    (ap (λ table. table.rows) (revalued_found _ c.self.inside.rows _ _ _ (sym c.find.ensures ∙ c.in-Some.is)
    c.swap_value.ensures.rows))

pub returns-then-number-gt1-clause-room : goal.returns-then-number-gt1-clause-room
returns-then-number-gt1-clause-room g c =
    let more : c.number_at-number.result == 1 ≡ false = grind arith in
    rw (
      ← c.self.view_is,
      number_found _ c.self.inside.rows.rows _ _ (sym c.find.ensures ∙ c.in-Some.is)
          c.number_at-number.ensures,
      more,
      add-zero,
    )
    (ap (λ table. table.room) (revalued_found _ c.self.inside.rows _ _ _ (sym c.find.ensures ∙ c.in-Some.is)
    c.swap_value.ensures.rows))

pub invariant_of-self-2 : goal.invariant_of-self-2
invariant_of-self-2 g c =
    let row = found _ c.self.inside.rows.rows _ (sym c.find.ensures ∙ c.in-Some.is) in
    rw (rw (c.remove.ensures.out, row.1.there) at c.remove.ensures.rows)
    (counted_removed c.self.inside.rows.rows _ c.self.invariant)

pub returns-clause-answer : goal.returns-clause-answer
returns-clause-answer g c =
    let row = found _ c.self.inside.rows.rows _ (sym c.find.ensures ∙ c.in-Some.is) in
    let same : row.0.1 ≡ c.number_at-number.result = same_Some _ _ (rw row.1.there at c.number_at-number.ensures) in
    let some : 0 < c.number_at-number.result = counted_at c.self.inside.rows.rows _ _ c.self.invariant
    c.number_at-number.ensures in
    let one : c.number_at-number.result ≡ 1 = omega arith in
    let out : c.remove.result ≡ Some row.0 = c.remove.ensures.out ∙ row.1.there in
    rw (← c.self.view_is, row.1.entry, same, one)
    (elim c.match-remove.branch [
      | in-Some-remove w ↦ w.result-is ∙ ap (λ (r : _). Gone r.0) (same_Some _ _ (sym w.in-Some-remove.is ∙ out))
      | in-None w ↦ absurd (none-some row.0 (rw w.in-None.is at out))
    ])

pub returns-clause-rows : goal.returns-clause-rows
returns-clause-rows g c =
    let row = found _ c.self.inside.rows.rows _ (sym c.find.ensures ∙ c.in-Some.is) in
    let some : 0 < c.number_at-number.result = counted_at c.self.inside.rows.rows _ _ c.self.invariant
    c.number_at-number.ensures in
    let one : c.number_at-number.result ≡ 1 = omega arith in
    rw (
      ← c.self.view_is,
      number_found _ c.self.inside.rows.rows _ _ (sym c.find.ensures ∙ c.in-Some.is)
          c.number_at-number.ensures,
      one,
      ← row.1.removed,
    )
    (rw (c.remove.ensures.out, row.1.there) at c.remove.ensures.rows)

pub returns-clause-room : goal.returns-clause-room
returns-clause-room g c =
    let row = found _ c.self.inside.rows.rows _ (sym c.find.ensures ∙ c.in-Some.is) in
    let some : 0 < c.number_at-number.result = counted_at c.self.inside.rows.rows _ _ c.self.invariant
    c.number_at-number.ensures in
    let one : c.number_at-number.result ≡ 1 = omega arith in
    rw (
      ← c.self.view_is,
      number_found _ c.self.inside.rows.rows _ _ (sym c.find.ensures ∙ c.in-Some.is)
          c.number_at-number.ensures,
      one,
    )
    (rw (c.remove.ensures.out, row.1.there) at c.remove.ensures.room)
