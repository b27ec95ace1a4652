-- Answers to the goals of `holdings::Holdings::leave`.
use Rattle.std.proofs.Common.{◌≡◌, ap, refl, length, get_or, arith}
use Rattle.std.proofs.lemmas.List.Edits.{length-remove}
use Rattle.rl_base.specs.Modes.{rank}
use Rattle.rl_modes.specs.Fields.{paired}
use Rattle.rl_modes.proofs.Orders.{order_parted}
use Rattle.rl_modes.proofs.Pairs.{length-paired, paired_remove, get_or-paired}
use Rattle.rl_modes.proofs.Kept.{kept_without, counted_there, held_at, seat_at, without-remove}
use Rattle.rl_modes.proofs.holdings.Holdings.leave.Goals as goal

pub seat_of-seat-requires : goal.seat_of-seat-requires
seat_of-seat-requires c = rw c.as_slice-3.ensures.value (order_parted (λ s. s.item) (λ s. rank s.place) c.args.item
    (rank c.args.place.now) c.self.inside.seats.items c.self.invariant.0.seats_in_order)

pub remove-requires : goal.remove-requires
remove-requires c =
    let cut = rw (c.as_slice.ensures.value, c.as_slice-2.ensures.value) at c.spot_of-at.ensures in
    let sits = rw c.as_slice-3.ensures.value at c.seat_of-seat.ensures.cut in
    let there = rw (← c.self.view_is) at c.requires.there in
    let long = length-paired c.self.inside.places.items c.self.inside.items.items c.self.invariant.1.places_long in
    let place_there = held_at _ c.self.inside.seats.items c.self.inside.running.items c.self.inside.running.items
    c.args.place.now c.args.item c.spot_of-at.result c.seat_of-seat.result c.self.invariant.0 cut sits there in
    omega (arith, c.as_slice.ensures.len, ap length c.as_slice.ensures.value, c.self.invariant.1.places_long)

pub remove-requires-2 : goal.remove-requires-2
remove-requires-2 c =
    let cut = rw (c.as_slice.ensures.value, c.as_slice-2.ensures.value) at c.spot_of-at.ensures in
    let sits = rw c.as_slice-3.ensures.value at c.seat_of-seat.ensures.cut in
    let there = rw (← c.self.view_is) at c.requires.there in
    let long = length-paired c.self.inside.places.items c.self.inside.items.items c.self.invariant.1.places_long in
    let place_there = held_at _ c.self.inside.seats.items c.self.inside.running.items c.self.inside.running.items
    c.args.place.now c.args.item c.spot_of-at.result c.seat_of-seat.result c.self.invariant.0 cut sits there in
    let seat_there = seat_at _ c.self.inside.seats.items c.self.inside.running.items c.self.inside.running.items
    c.args.place.now c.args.item c.spot_of-at.result c.seat_of-seat.result c.self.invariant.0 cut sits there in
    omega (arith, c.as_slice-3.ensures.len, ap length c.as_slice-3.ensures.value)

pub count_down-requires-clause-there : goal.count_down-requires-clause-there
count_down-requires-clause-there c m =
    let cut = rw (c.as_slice.ensures.value, c.as_slice-2.ensures.value) at c.spot_of-at.ensures in
    let sits = rw c.as_slice-3.ensures.value at c.seat_of-seat.ensures.cut in
    let there = rw (← c.self.view_is) at c.requires.there in
    let long = length-paired c.self.inside.places.items c.self.inside.items.items c.self.invariant.1.places_long in
    let place_there = held_at _ c.self.inside.seats.items c.self.inside.running.items c.self.inside.running.items
    c.args.place.now c.args.item c.spot_of-at.result c.seat_of-seat.result c.self.invariant.0 cut sits there in
    let gone : c.remove-gone.result ≡ (get_or (paired c.self.inside.places.items c.self.inside.items.items)
    c.spot_of-at.result (record { place = c.args.place.now; item = c.remove-gone.result })).item =
    rw (get_or-paired c.self.inside.places.items c.self.inside.items.items c.spot_of-at.result
    (record { place = c.args.place.now; item = c.remove-gone.result }) c.self.invariant.1.places_long
    (omega arith)) c.remove-gone.ensures.value in
    counted_there _ c.self.inside.seats.items c.self.inside.running.items c.self.inside.running.items c.args.place.now
    c.args.item c.spot_of-at.result c.seat_of-seat.result c.self.invariant.0 cut sits there m _ c.remove-gone.result
    gone

pub invariant_of-self : goal.invariant_of-self
invariant_of-self c =
    let cut = rw (c.as_slice.ensures.value, c.as_slice-2.ensures.value) at c.spot_of-at.ensures in
    let sits = rw c.as_slice-3.ensures.value at c.seat_of-seat.ensures.cut in
    let there = rw (← c.self.view_is) at c.requires.there in
    let long = length-paired c.self.inside.places.items c.self.inside.items.items c.self.invariant.1.places_long in
    let place_there = held_at _ c.self.inside.seats.items c.self.inside.running.items c.self.inside.running.items
    c.args.place.now c.args.item c.spot_of-at.result c.seat_of-seat.result c.self.invariant.0 cut sits there in
    let gone : c.remove-gone.result ≡ (get_or (paired c.self.inside.places.items c.self.inside.items.items)
    c.spot_of-at.result (record { place = c.args.place.now; item = c.remove-gone.result })).item =
    rw (get_or-paired c.self.inside.places.items c.self.inside.items.items c.spot_of-at.result
    (record { place = c.args.place.now; item = c.remove-gone.result }) c.self.invariant.1.places_long
    (omega arith)) c.remove-gone.ensures.value in
    let seat_there = seat_at _ c.self.inside.seats.items c.self.inside.running.items c.self.inside.running.items
    c.args.place.now c.args.item c.spot_of-at.result c.seat_of-seat.result c.self.invariant.0 cut sits there in
    let places = ap length c.remove.ensures.items in
    let places_less = length-remove c.self.inside.places.items c.spot_of-at.result
    (omega (arith, c.self.invariant.1.places_long)) in
    let items = ap length c.remove-gone.ensures.items in
    let items_less = length-remove c.self.inside.items.items c.spot_of-at.result (omega arith) in
    let seats = ap length c.remove-2.ensures.items in
    let seats_less = length-remove c.self.inside.seats.items c.seat_of-seat.result seat_there in (
      rw (
        c.remove.ensures.items,
        c.remove-gone.ensures.items,
        c.remove-2.ensures.items,
        paired_remove
            c.self.inside.places.items c.self.inside.items.items c.spot_of-at.result c.self.invariant.1.places_long,
      )
          (kept_without _ c.self.inside.seats.items c.self.inside.running.items c.count_down.new.running.items
          c.args.place.now c.args.item c.spot_of-at.result c.seat_of-seat.result c.self.invariant.0 cut sits there _
          c.remove-gone.result gone c.count_down.ensures.counts),
      record {
        places_long = omega (arith, places, places_less, items, items_less, c.self.invariant.1.places_long);
        seats_long = omega (arith, seats, seats_less, items, items_less, c.self.invariant.1.seats_long);
        places_len = omega (arith, c.remove.ensures.len, c.remove-gone.ensures.len, c.self.invariant.1.places_len);
        seats_len = omega (arith, c.remove-2.ensures.len, c.remove-gone.ensures.len, c.self.invariant.1.seats_len);
        len_within = omega (arith, c.remove-gone.ensures.len, c.self.invariant.1.len_within);
        within = omega (arith, items, items_less, c.self.invariant.1.within);
        places_fit = omega (arith, c.remove.ensures.capacity, c.self.invariant.1.places_fit);
        items_fit = omega (arith, c.remove-gone.ensures.capacity, c.self.invariant.1.items_fit);
        seats_fit = omega (arith, c.remove-2.ensures.capacity, c.self.invariant.1.seats_fit);
        table = λ _. omega (arith, c.count_down.ensures.long);
        whole = λ _. c.count_down.ensures.long;
      },
    )

pub returns-clause-gone : goal.returns-clause-gone
returns-clause-gone c =
    let cut = rw (c.as_slice.ensures.value, c.as_slice-2.ensures.value) at c.spot_of-at.ensures in
    let sits = rw c.as_slice-3.ensures.value at c.seat_of-seat.ensures.cut in
    let there = rw (← c.self.view_is) at c.requires.there in
    let long = length-paired c.self.inside.places.items c.self.inside.items.items c.self.invariant.1.places_long in
    let place_there = held_at _ c.self.inside.seats.items c.self.inside.running.items c.self.inside.running.items
    c.args.place.now c.args.item c.spot_of-at.result c.seat_of-seat.result c.self.invariant.0 cut sits there in
    rw (
      ← c.self.view_is,
      c.remove.ensures.items,
      c.remove-gone.ensures.items,
      paired_remove
          c.self.inside.places.items c.self.inside.items.items c.spot_of-at.result c.self.invariant.1.places_long,
      without-remove _ c.self.inside.seats.items c.self.inside.running.items c.self.inside.running.items
          c.args.place.now c.args.item c.spot_of-at.result c.seat_of-seat.result c.self.invariant.0 cut sits there,
    ) refl

pub returns-clause-count : goal.returns-clause-count
returns-clause-count c =
    let cut = rw (c.as_slice.ensures.value, c.as_slice-2.ensures.value) at c.spot_of-at.ensures in
    let sits = rw c.as_slice-3.ensures.value at c.seat_of-seat.ensures.cut in
    let there = rw (← c.self.view_is) at c.requires.there in
    let place_there = held_at _ c.self.inside.seats.items c.self.inside.running.items c.self.inside.running.items
    c.args.place.now c.args.item c.spot_of-at.result c.seat_of-seat.result c.self.invariant.0 cut sits there in
    rw (
      ← c.self.view_is,
      c.remove.ensures.items,
      c.remove-gone.ensures.items,
      paired_remove
          c.self.inside.places.items c.self.inside.items.items c.spot_of-at.result c.self.invariant.1.places_long,
    )
    (length-remove _ c.spot_of-at.result place_there)
