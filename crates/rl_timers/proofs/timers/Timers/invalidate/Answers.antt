-- Answers to the goals of `timers::Timers::invalidate`.
use Rattle.std.proofs.Common.{◌≡◌, false, set, refl, sym, ap, ◌∙◌, inl, inr, arith}
use Rattle.rl_timers.specs.declared.rows.Row.{Row}
use Rattle.rl_timers.specs.Timings.{changed, invalidated}
use Rattle.rl_timers.specs.Queues.{Waiting}
use Rattle.rl_timers.specs.Rows.{timers_of, queued}
use Rattle.rl_timers.proofs.Keeping.{others, with_entry, is_asked, place_within, is_read_at, left_without, no_entry, some_date, no_date, entries_stay, table_after, timers_after, changed_view}
use Rattle.rl_timers.proofs.timers.Timers.invalidate.Goals as goal

pub index_mut-row-requires : goal.index_mut-row-requires
index_mut-row-requires c =
    let asked = is_asked c.self.inside.rows.items c.as_slice.result.now c.self.inside.room c.args.t
    c.place_of-place.result c.args.self.now c.self.view_is c.as_slice.ensures.value
    c.place_of-place.ensures.within c.place_of-place.ensures.lower c.place_of-place.ensures.higher
    (sym c.is_valid.ensures ∙ c.if-not-is_valid.false) in
    omega (
      arith,
      place_within c.self.inside.rows.items c.args.t c.place_of-place.result c.self.invariant.rising
          asked,
      c.as_slice.ensures,
    )

pub invariant_of-self : goal.invariant_of-self
invariant_of-self c =
    let asked = is_asked c.self.inside.rows.items c.as_slice.result.now c.self.inside.room c.args.t
    c.place_of-place.result c.args.self.now c.self.view_is c.as_slice.ensures.value
    c.place_of-place.ensures.within c.place_of-place.ensures.lower c.place_of-place.ensures.higher
    (sym c.is_valid.ensures ∙ c.if-not-is_valid.false) in
    let r = c.index_mut-row.result.now in
    let s : Row = record r { is_valid = false } in
    let row = is_read_at c.self.inside.rows.items c.args.t c.place_of-place.result r c.self.invariant.rising asked
    c.index_mut-row.ensures.value in
    let date = some_date r.date (sym c.is_some.ensures ∙ c.if-is_some.true) in
    let left = left_without c.self.inside.rows.items _ c.self.inside.queue c.take.new.self c.self.inside.room
    c.place_of-place.result r date.0 c.self.invariant row.found row.valid date.1 c.take.ensures in
    let entries = ap (λ (w : Waiting). w.entries) left ∙ ap (λ o. with_entry o
    (queued (others c.self.inside.rows.items c.place_of-place.result))) (sym (no_entry s (inl refl))) in
    table_after c.self.inside.rows.items _ c.self.inside.queue c.take.new.self c.self.inside.room
    c.place_of-place.result r s c.self.invariant row.found refl entries
    (omega (arith, ap (λ (w : Waiting). w.room) left))

pub invariant_of-self-else-is_some : goal.invariant_of-self-else-is_some
invariant_of-self-else-is_some c =
    let asked = is_asked c.self.inside.rows.items c.as_slice.result.now c.self.inside.room c.args.t
    c.place_of-place.result c.args.self.now c.self.view_is c.as_slice.ensures.value
    c.place_of-place.ensures.within c.place_of-place.ensures.lower c.place_of-place.ensures.higher
    (sym c.is_valid.ensures ∙ c.if-not-is_valid.false) in
    let r = c.index_mut-row.result.now in
    let s : Row = record r { is_valid = false } in
    let row = is_read_at c.self.inside.rows.items c.args.t c.place_of-place.result r c.self.invariant.rising asked
    c.index_mut-row.ensures.value in
    let none = no_entry r (inr (no_date r.date (sym c.is_some.ensures ∙ c.if-is_some.false))) in
    let entries = entries_stay c.self.inside.rows.items _ c.self.inside.queue c.self.inside.room
    c.place_of-place.result r s c.self.invariant row.found none (no_entry s (inl refl)) in
    table_after c.self.inside.rows.items _ c.self.inside.queue c.self.inside.queue c.self.inside.room
    c.place_of-place.result r s c.self.invariant row.found refl entries (omega arith)

pub returns-then-is_some-clause-ok : goal.returns-then-is_some-clause-ok
returns-then-is_some-clause-ok c =
    let asked = is_asked c.self.inside.rows.items c.as_slice.result.now c.self.inside.room c.args.t
    c.place_of-place.result c.args.self.now c.self.view_is c.as_slice.ensures.value
    c.place_of-place.ensures.within c.place_of-place.ensures.lower c.place_of-place.ensures.higher
    (sym c.is_valid.ensures ∙ c.if-not-is_valid.false) in
    let r = c.index_mut-row.result.now in
    let s : Row = record r { is_valid = false } in
    let row = is_read_at c.self.inside.rows.items c.args.t c.place_of-place.result r c.self.invariant.rising asked
    c.index_mut-row.ensures.value in
    let timers : timers_of (set c.self.inside.rows.items c.place_of-place.result s)
    ≡ changed c.args.t invalidated (timers_of c.self.inside.rows.items) = timers_after c.self.inside.rows.items _
    c.self.inside.queue c.self.inside.room c.args.t c.place_of-place.result r s invalidated c.self.invariant
    row.found row.number refl refl in
    changed_view c.self.inside.rows.items _ c.self.inside.room c.args.t invalidated c.args.self.now c.self.view_is
    timers

pub returns-else-is_some-clause-ok : goal.returns-else-is_some-clause-ok
returns-else-is_some-clause-ok c =
    let asked = is_asked c.self.inside.rows.items c.as_slice.result.now c.self.inside.room c.args.t
    c.place_of-place.result c.args.self.now c.self.view_is c.as_slice.ensures.value
    c.place_of-place.ensures.within c.place_of-place.ensures.lower c.place_of-place.ensures.higher
    (sym c.is_valid.ensures ∙ c.if-not-is_valid.false) in
    let r = c.index_mut-row.result.now in
    let s : Row = record r { is_valid = false } in
    let row = is_read_at c.self.inside.rows.items c.args.t c.place_of-place.result r c.self.invariant.rising asked
    c.index_mut-row.ensures.value in
    let timers : timers_of (set c.self.inside.rows.items c.place_of-place.result s)
    ≡ changed c.args.t invalidated (timers_of c.self.inside.rows.items) = timers_after c.self.inside.rows.items _
    c.self.inside.queue c.self.inside.room c.args.t c.place_of-place.result r s invalidated c.self.invariant
    row.found row.number refl refl in
    changed_view c.self.inside.rows.items _ c.self.inside.room c.args.t invalidated c.args.self.now c.self.view_is
    timers
