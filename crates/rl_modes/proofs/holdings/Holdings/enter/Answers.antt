-- Answers to the goals of `holdings::Holdings::enter`.
use Rattle.std.proofs.Common.{refl, ◌<◌, ◌≤◌, ◌∙◌, ap, length, arith}
use Rattle.std.proofs.lemmas.List.Edits.{length-insert}
use Rattle.rl_base.specs.Modes.{rank}
use Rattle.rl_modes.specs.Fields.{paired, opens}
use Rattle.rl_modes.proofs.Cuts.{length-filter-le}
use Rattle.rl_modes.proofs.Orders.{order_parted}
use Rattle.rl_modes.proofs.Pairs.{length-paired, paired_insert}
use Rattle.rl_modes.proofs.Kept.{kept_with, with_one-insert}
use Rattle.rl_modes.proofs.holdings.Holdings.enter.Goals as goal

pub seat_of-seat-requires : goal.seat_of-seat-requires
seat_of-seat-requires c = rw c.as_slice.ensures.value (order_parted (λ s. s.item) (λ s. rank s.place)
    c.args.item.now.id (rank c.args.place.now) c.self.inside.seats.items c.self.invariant.0.seats_in_order)

pub put_at-requires-clause-room : goal.put_at-requires-clause-room
put_at-requires-clause-room c =
    let long = length-paired c.self.inside.places.items c.self.inside.items.items c.self.invariant.1.places_long in
    let room : length (paired c.self.inside.places.items c.self.inside.items.items) < c.self.inside.capacity =
    (rw (← c.self.view_is) at c.requires.room) in
    omega (
      arith,
      c.as_slice.ensures.len,
      ap length c.as_slice.ensures.value,
      c.self.invariant.1.seats_fit,
      c.self.invariant.1.seats_long,
    )

pub put_at-requires-2-clause-in_bounds : goal.put_at-requires-2-clause-in_bounds
put_at-requires-2-clause-in_bounds c =
    let long = length-paired c.self.inside.places.items c.self.inside.items.items c.self.invariant.1.places_long in
    let room : length (paired c.self.inside.places.items c.self.inside.items.items) < c.self.inside.capacity =
    (rw (← c.self.view_is) at c.requires.room) in
    omega (
      arith,
      c.as_slice-2.ensures.len,
      ap length c.as_slice-2.ensures.value,
      c.self.invariant.1.places_long,
      (rw (c.as_slice-2.ensures.value, c.as_slice-3.ensures.value) at c.spot_of-at.ensures).within,
    )

pub put_at-requires-2-clause-room : goal.put_at-requires-2-clause-room
put_at-requires-2-clause-room c =
    let long = length-paired c.self.inside.places.items c.self.inside.items.items c.self.invariant.1.places_long in
    let room : length (paired c.self.inside.places.items c.self.inside.items.items) < c.self.inside.capacity =
    (rw (← c.self.view_is) at c.requires.room) in
    omega (
      arith,
      c.as_slice-2.ensures.len,
      ap length c.as_slice-2.ensures.value,
      c.self.invariant.1.places_fit,
      c.self.invariant.1.places_long,
    )

pub put_at-requires-3-clause-in_bounds : goal.put_at-requires-3-clause-in_bounds
put_at-requires-3-clause-in_bounds c =
    let long = length-paired c.self.inside.places.items c.self.inside.items.items c.self.invariant.1.places_long in
    let room : length (paired c.self.inside.places.items c.self.inside.items.items) < c.self.inside.capacity =
    (rw (← c.self.view_is) at c.requires.room) in
    omega (
      arith,
      c.as_slice-3.ensures.len,
      ap length c.as_slice-3.ensures.value,
      c.self.invariant.1.places_long,
      (rw (c.as_slice-2.ensures.value, c.as_slice-3.ensures.value) at c.spot_of-at.ensures).within,
    )

pub put_at-requires-3-clause-room : goal.put_at-requires-3-clause-room
put_at-requires-3-clause-room c =
    let long = length-paired c.self.inside.places.items c.self.inside.items.items c.self.invariant.1.places_long in
    let room : length (paired c.self.inside.places.items c.self.inside.items.items) < c.self.inside.capacity =
    (rw (← c.self.view_is) at c.requires.room) in
    omega (
      arith,
      c.as_slice-3.ensures.len,
      ap length c.as_slice-3.ensures.value,
      c.self.invariant.1.items_fit,
      c.self.invariant.1.places_long,
    )

pub count_up-requires-clause-fits : goal.count_up-requires-clause-fits
count_up-requires-clause-fits c m =
    let long = length-paired c.self.inside.places.items c.self.inside.items.items c.self.invariant.1.places_long in
    let room : length (paired c.self.inside.places.items c.self.inside.items.items) < c.self.inside.capacity =
    (rw (← c.self.view_is) at c.requires.room) in
    omega (
      arith,
      c.self.invariant.0.counted m,
      length-filter-le (opens m)
          (paired c.self.inside.places.items c.self.inside.items.items),
      c.self.ranges,
    )

pub invariant_of-self : goal.invariant_of-self
invariant_of-self c =
    let long = length-paired c.self.inside.places.items c.self.inside.items.items c.self.invariant.1.places_long in
    let room : length (paired c.self.inside.places.items c.self.inside.items.items) < c.self.inside.capacity =
    (rw (← c.self.view_is) at c.requires.room) in
    let cut = rw (c.as_slice-2.ensures.value, c.as_slice-3.ensures.value) at c.spot_of-at.ensures in
    let sits = rw c.as_slice.ensures.value at c.seat_of-seat.ensures.cut in
    let absent = rw (← c.self.view_is) at c.requires.absent in
    let within : c.spot_of-at.result ≤ length c.self.inside.items.items = omega (arith, cut.within) in
    let places = ap length c.put_at-2.ensures.items ∙ length-insert c.self.inside.places.items c.spot_of-at.result
    c.args.place.now (omega (arith, c.self.invariant.1.places_long)) in
    let items = ap length c.put_at-3.ensures.items ∙ length-insert c.self.inside.items.items c.spot_of-at.result
    c.args.item.now within in
    let seats = ap length c.put_at.ensures.items ∙ length-insert c.self.inside.seats.items c.seat_of-seat.result _
    sits.within in (
      rw (
        c.put_at-2.ensures.items,
        c.put_at-3.ensures.items,
        c.put_at.ensures.items,
        paired_insert
            c.self.inside.places.items c.self.inside.items.items c.spot_of-at.result c.args.place.now c.args.item.now
            c.self.invariant.1.places_long within,
      )
          (kept_with _ _ c.self.inside.running.items c.count_up.new.running.items _ _ c.spot_of-at.result
          c.seat_of-seat.result c.self.invariant.0 cut sits absent refl refl c.seat_of-seat.ensures.limit
          c.count_up.ensures.counts),
      record {
        places_long = omega (arith, places, items, c.self.invariant.1.places_long);
        seats_long = omega (arith, seats, items, c.self.invariant.1.seats_long);
        places_len = omega (arith, c.put_at-2.ensures.len, c.put_at-3.ensures.len, c.self.invariant.1.places_len);
        seats_len = omega (arith, c.put_at.ensures.len, c.put_at-3.ensures.len, c.self.invariant.1.seats_len);
        len_within = omega (
          arith,
          c.put_at-3.ensures.len,
          c.as_slice-3.ensures.len,
          ap length
              c.as_slice-3.ensures.value,
        );
        within = omega (arith, items);
        places_fit = omega (arith, c.put_at-2.ensures.capacity, c.self.invariant.1.places_fit);
        items_fit = omega (arith, c.put_at-3.ensures.capacity, c.self.invariant.1.items_fit);
        seats_fit = omega (arith, c.put_at.ensures.capacity, c.self.invariant.1.seats_fit);
        table = λ _. omega (arith, c.count_up.ensures.long);
        whole = λ _. c.count_up.ensures.long;
      },
    )

pub returns : goal.returns
returns c =
    let long = length-paired c.self.inside.places.items c.self.inside.items.items c.self.invariant.1.places_long in
    let cut = rw (c.as_slice-2.ensures.value, c.as_slice-3.ensures.value) at c.spot_of-at.ensures in
    let within : c.spot_of-at.result ≤ length c.self.inside.items.items = omega (arith, cut.within) in
    rw (
      ← c.self.view_is,
      c.put_at-2.ensures.items,
      c.put_at-3.ensures.items,
      paired_insert c.self.inside.places.items
          c.self.inside.items.items c.spot_of-at.result c.args.place.now c.args.item.now c.self.invariant.1.places_long
          within,
      with_one-insert (record { place = c.args.place.now; item = c.args.item.now }) _ c.spot_of-at.result
          cut,
    ) refl
