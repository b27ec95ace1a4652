-- Answers to the goals of `timers::Timers::fire`.
use Rattle.std.proofs.Common.{◌≡◌, set, refl, sym, ap, ◌∙◌, inr, arith}
use Rattle.rl_timers.specs.declared.rows.Row.{Row}
use Rattle.rl_timers.specs.Timings.{changed, fired}
use Rattle.rl_timers.specs.Queues.{Waiting}
use Rattle.rl_timers.specs.Rows.{timers_of, queued}
use Rattle.rl_timers.proofs.Keeping.{others, with_entry, entry_put, no_entry, changed_view, queued_in_order, is_asked, due_seen, date_there, is_read_at, left_without, place_within, table_after, timers_after}
use Rattle.rl_timers.proofs.timers.Timers.fire.Goals as goal

pub index_mut-row-requires : goal.index_mut-row-requires
index_mut-row-requires c =
    let asked = is_asked c.self.inside.rows.items c.as_slice.result.now c.self.inside.room c.args.t
    c.place_of-place.result c.args.self.now c.self.view_is c.as_slice.ensures.value
    c.place_of-place.ensures.within c.place_of-place.ensures.lower c.place_of-place.ensures.higher
    c.requires.valid in
    omega (
      arith,
      place_within c.self.inside.rows.items c.args.t c.place_of-place.result c.self.invariant.rising
          asked,
      c.as_slice.ensures,
    )

pub put-row-requires-clause-room : goal.put-row-requires-clause-room
put-row-requires-clause-room c =
    let asked = is_asked c.self.inside.rows.items c.as_slice.result.now c.self.inside.room c.args.t
    c.place_of-place.result c.args.self.now c.self.view_is c.as_slice.ensures.value
    c.place_of-place.ensures.within c.place_of-place.ensures.lower c.place_of-place.ensures.higher
    c.requires.valid in
    let row = is_read_at c.self.inside.rows.items c.args.t c.place_of-place.result c.index_mut-row.result.now
    c.self.invariant.rising asked c.index_mut-row.ensures.value in
    let due = due_seen c.self.inside.rows.items c.self.inside.room c.args.t c.args.now c.args.self.now c.self.view_is
    c.requires.due in
    let date = date_there _ c.args.now due in
    let left = left_without c.self.inside.rows.items _ c.self.inside.queue c.take.new.self c.self.inside.room
    c.place_of-place.result c.index_mut-row.result.now date.0 c.self.invariant row.found row.valid
    (sym row.date ∙ date.1) c.take.ensures in
    omega (arith, ap (λ (w : Waiting). w.room) left)

pub put-row-requires-clause-in_order : goal.put-row-requires-clause-in_order
put-row-requires-clause-in_order c =
    let asked = is_asked c.self.inside.rows.items c.as_slice.result.now c.self.inside.room c.args.t
    c.place_of-place.result c.args.self.now c.self.view_is c.as_slice.ensures.value
    c.place_of-place.ensures.within c.place_of-place.ensures.lower c.place_of-place.ensures.higher
    c.requires.valid in
    let row = is_read_at c.self.inside.rows.items c.args.t c.place_of-place.result c.index_mut-row.result.now
    c.self.invariant.rising asked c.index_mut-row.ensures.value in
    let due = due_seen c.self.inside.rows.items c.self.inside.room c.args.t c.args.now c.args.self.now c.self.view_is
    c.requires.due in
    let date = date_there _ c.args.now due in
    let left = left_without c.self.inside.rows.items _ c.self.inside.queue c.take.new.self c.self.inside.room
    c.place_of-place.result c.index_mut-row.result.now date.0 c.self.invariant row.found row.valid
    (sym row.date ∙ date.1) c.take.ensures in
    rw left (queued_in_order (others c.self.inside.rows.items c.place_of-place.result))

pub invariant_of-self : goal.invariant_of-self
invariant_of-self c =
    let asked = is_asked c.self.inside.rows.items c.as_slice.result.now c.self.inside.room c.args.t
    c.place_of-place.result c.args.self.now c.self.view_is c.as_slice.ensures.value
    c.place_of-place.ensures.within c.place_of-place.ensures.lower c.place_of-place.ensures.higher
    c.requires.valid in
    let row = is_read_at c.self.inside.rows.items c.args.t c.place_of-place.result c.index_mut-row.result.now
    c.self.invariant.rising asked c.index_mut-row.ensures.value in
    let due = due_seen c.self.inside.rows.items c.self.inside.room c.args.t c.args.now c.args.self.now c.self.view_is
    c.requires.due in
    let date = date_there _ c.args.now due in
    let left = left_without c.self.inside.rows.items _ c.self.inside.queue c.take.new.self c.self.inside.room
    c.place_of-place.result c.index_mut-row.result.now date.0 c.self.invariant row.found row.valid
    (sym row.date ∙ date.1) c.take.ensures in
    let r = c.index_mut-row.result.now in
    let s : Row = record r { date = c.date_after-row.result; node = c.put-row.result } in
    table_after c.self.inside.rows.items _ c.self.inside.queue c.put-row.new.self c.self.inside.room
    c.place_of-place.result r s c.self.invariant row.found refl
    (c.put-row.ensures.entries ∙ entry_put _ _ s c.in-Some.date c.args.t (ap (λ (w : Waiting). w.entries) left)
    row.valid c.in-Some.is row.number) (omega (arith, c.put-row.ensures.room, ap (λ (w : Waiting). w.room) left))

pub invariant_of-self-in_default : goal.invariant_of-self-in_default
invariant_of-self-in_default c =
    let asked = is_asked c.self.inside.rows.items c.as_slice.result.now c.self.inside.room c.args.t
    c.place_of-place.result c.args.self.now c.self.view_is c.as_slice.ensures.value
    c.place_of-place.ensures.within c.place_of-place.ensures.lower c.place_of-place.ensures.higher
    c.requires.valid in
    let row = is_read_at c.self.inside.rows.items c.args.t c.place_of-place.result c.index_mut-row.result.now
    c.self.invariant.rising asked c.index_mut-row.ensures.value in
    let due = due_seen c.self.inside.rows.items c.self.inside.room c.args.t c.args.now c.args.self.now c.self.view_is
    c.requires.due in
    let date = date_there _ c.args.now due in
    let left = left_without c.self.inside.rows.items _ c.self.inside.queue c.take.new.self c.self.inside.room
    c.place_of-place.result c.index_mut-row.result.now date.0 c.self.invariant row.found row.valid
    (sym row.date ∙ date.1) c.take.ensures in
    let r = c.index_mut-row.result.now in
    let s : Row = record r { date = c.date_after-row.result; node = c.index_mut-row.result.now.node } in
    table_after c.self.inside.rows.items _ c.self.inside.queue c.take.new.self c.self.inside.room
    c.place_of-place.result r s c.self.invariant row.found refl
    (ap (λ (w : Waiting). w.entries) left ∙ ap (λ o. with_entry o
    (queued (others c.self.inside.rows.items c.place_of-place.result))) (sym (no_entry s (inr c.in_default.is))))
    (omega (arith, ap (λ (w : Waiting). w.room) left))

pub returns-in-Some : goal.returns-in-Some
returns-in-Some c =
    let asked = is_asked c.self.inside.rows.items c.as_slice.result.now c.self.inside.room c.args.t
    c.place_of-place.result c.args.self.now c.self.view_is c.as_slice.ensures.value
    c.place_of-place.ensures.within c.place_of-place.ensures.lower c.place_of-place.ensures.higher
    c.requires.valid in
    let row = is_read_at c.self.inside.rows.items c.args.t c.place_of-place.result c.index_mut-row.result.now
    c.self.invariant.rising asked c.index_mut-row.ensures.value in
    let due = due_seen c.self.inside.rows.items c.self.inside.room c.args.t c.args.now c.args.self.now c.self.view_is
    c.requires.due in
    let date = date_there _ c.args.now due in
    let left = left_without c.self.inside.rows.items _ c.self.inside.queue c.take.new.self c.self.inside.room
    c.place_of-place.result c.index_mut-row.result.now date.0 c.self.invariant row.found row.valid
    (sym row.date ∙ date.1) c.take.ensures in
    let r = c.index_mut-row.result.now in
    let s : Row = record r { date = c.date_after-row.result; node = c.put-row.result } in
    let dated = c.date_after-row.ensures in
    let timers : timers_of (set c.self.inside.rows.items c.place_of-place.result s)
    ≡ changed c.args.t (fired c.args.now) (timers_of c.self.inside.rows.items) = timers_after
    c.self.inside.rows.items _ c.self.inside.queue c.self.inside.room c.args.t c.place_of-place.result r s
    (fired c.args.now) c.self.invariant row.found row.number refl (rw dated refl) in
    record {
      fired = changed_view c.self.inside.rows.items _ c.self.inside.room c.args.t (fired c.args.now)
          c.args.self.now c.self.view_is timers;
    }

pub returns-in_default : goal.returns-in_default
returns-in_default c =
    let asked = is_asked c.self.inside.rows.items c.as_slice.result.now c.self.inside.room c.args.t
    c.place_of-place.result c.args.self.now c.self.view_is c.as_slice.ensures.value
    c.place_of-place.ensures.within c.place_of-place.ensures.lower c.place_of-place.ensures.higher
    c.requires.valid in
    let row = is_read_at c.self.inside.rows.items c.args.t c.place_of-place.result c.index_mut-row.result.now
    c.self.invariant.rising asked c.index_mut-row.ensures.value in
    let due = due_seen c.self.inside.rows.items c.self.inside.room c.args.t c.args.now c.args.self.now c.self.view_is
    c.requires.due in
    let date = date_there _ c.args.now due in
    let left = left_without c.self.inside.rows.items _ c.self.inside.queue c.take.new.self c.self.inside.room
    c.place_of-place.result c.index_mut-row.result.now date.0 c.self.invariant row.found row.valid
    (sym row.date ∙ date.1) c.take.ensures in
    let r = c.index_mut-row.result.now in
    let s : Row = record r { date = c.date_after-row.result; node = c.index_mut-row.result.now.node } in
    let dated = c.date_after-row.ensures in
    let timers : timers_of (set c.self.inside.rows.items c.place_of-place.result s)
    ≡ changed c.args.t (fired c.args.now) (timers_of c.self.inside.rows.items) = timers_after
    c.self.inside.rows.items _ c.self.inside.queue c.self.inside.room c.args.t c.place_of-place.result r s
    (fired c.args.now) c.self.invariant row.found row.number refl (rw dated refl) in
    record {
      fired = changed_view c.self.inside.rows.items _ c.self.inside.room c.args.t (fired c.args.now)
          c.args.self.now c.self.view_is timers;
    }
