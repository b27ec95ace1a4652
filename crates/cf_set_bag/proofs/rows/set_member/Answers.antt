-- Answers to the goals of `rows::set_member`.
use Rattle.std.proofs.Common.{Some, sym, ◌∙◌, ap, add-zero}
use Rattle.std.proofs.lemmas.Option.{same_Some}
use Rattle.cf_basichash.proofs.TablesLemmas.{found, missing}
use Rattle.cf_set_bag.proofs.Membership.{lookup_key-entry}
use Rattle.cf_set_bag.proofs.rows.set_member.Goals as goal

pub swap_key-requires-clause-equal : goal.swap_key-requires-clause-equal
swap_key-requires-clause-equal g c =
    let row = found _ c.args.rows.now.rows _ (sym c.find.ensures ∙ c.in-Some.is) in
    λ x at. rw (same_Some _ _ (rw row.1.there at (sym at))) row.1.passes

pub returns-in-Some-clause-answer : goal.returns-in-Some-clause-answer
returns-in-Some-clause-answer g c =
    let row = found _ c.args.rows.now.rows _ (sym c.find.ensures ∙ c.in-Some.is) in
    rw (lookup_key-entry _ c.args.rows.now.rows, row.1.entry) (ap Some (rw row.1.there at c.swap_key.ensures.out))

pub returns-in-Some-clause-rows : goal.returns-in-Some-clause-rows
returns-in-Some-clause-rows g c =
    let row = found _ c.args.rows.now.rows _ (sym c.find.ensures ∙ c.in-Some.is) in
    rw (row.1.value, ← row.1.rekeyed c.args.e) (ap (λ table. table.rows) (rw row.1.there at c.swap_key.ensures.rows))

pub returns-in-Some-clause-room : goal.returns-in-Some-clause-room
returns-in-Some-clause-room g c =
    let row = found _ c.args.rows.now.rows _ (sym c.find.ensures ∙ c.in-Some.is) in
    rw (row.1.value, add-zero) (ap (λ table. table.room) (rw row.1.there at c.swap_key.ensures.rows))

pub returns-in-Some-clause-callbacks : goal.returns-in-Some-clause-callbacks
returns-in-Some-clause-callbacks g c =
    let row = found _ c.args.rows.now.rows _ (sym c.find.ensures ∙ c.in-Some.is) in
    ap (λ table. table.callbacks) (rw row.1.there at c.swap_key.ensures.rows)

pub returns-in-None-clause-answer : goal.returns-in-None-clause-answer
returns-in-None-clause-answer g c =
    rw (
      lookup_key-entry _ c.args.rows.now.rows,
      (missing _ c.args.rows.now.rows
          (sym c.find.ensures ∙ c.in-None.is)).entry,
    )

pub returns-in-None-clause-rows : goal.returns-in-None-clause-rows
returns-in-None-clause-rows g c =
    rw ((missing _ c.args.rows.now.rows (sym c.find.ensures ∙ c.in-None.is)).value)
    (rw c.unwrap.ensures at c.add.ensures.rows)

pub returns-in-None-clause-room : goal.returns-in-None-clause-room
returns-in-None-clause-room g c =
    rw ((missing _ c.args.rows.now.rows (sym c.find.ensures ∙ c.in-None.is)).value)
    (rw c.unwrap.ensures at c.add.ensures.room)
