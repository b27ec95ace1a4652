-- Answers to the goals of `holdings::Holdings::hold`.
use Rattle.std.proofs.Common.{◌∙◌, ap, length, arith}
use Rattle.rl_modes.proofs.holdings.Holdings.hold.Goals as goal

pub invariant_of-self-2 : goal.invariant_of-self-2
invariant_of-self-2 c = (
  rw (c.in_ok-reserve.ensures.items, c.in_ok-reserve-2.ensures.items, c.in_ok-reserve-3.ensures.items)
      (record {
        ordered = c.self.invariant.0.ordered;
        seats_in_order = c.self.invariant.0.seats_in_order;
        seated = c.self.invariant.0.seated;
        counted = λ m. c.make_counts.ensures.counts m ∙ c.self.invariant.0.counted m;
      }),
  record {
    places_long = rw (c.in_ok-reserve.ensures.items, c.in_ok-reserve-2.ensures.items) c.self.invariant.1.places_long;
    seats_long = rw (c.in_ok-reserve-3.ensures.items, c.in_ok-reserve-2.ensures.items) c.self.invariant.1.seats_long;
    places_len = omega (
      arith,
      c.in_ok-reserve.ensures.len,
      c.in_ok-reserve-2.ensures.len,
      c.self.invariant.1.places_len,
    );
    seats_len = omega (
      arith,
      c.in_ok-reserve-3.ensures.len,
      c.in_ok-reserve-2.ensures.len,
      c.self.invariant.1.seats_len,
    );
    within = omega (arith, ap length c.in_ok-reserve-2.ensures.items, c.self.invariant.1.within);
    len_within = omega (arith, c.in_ok-reserve-2.ensures.len, c.self.invariant.1.len_within);
    places_fit = omega (
      arith,
      c.in_ok-reserve.ensures.ok,
      c.in_ok-reserve.ensures.len,
      c.self.invariant.1.places_len,
      c.len.ensures,
    );
    items_fit = omega (arith, c.in_ok-reserve-2.ensures.ok, c.in_ok-reserve-2.ensures.len, c.len.ensures);
    seats_fit = omega (
      arith,
      c.in_ok-reserve-3.ensures.ok,
      c.in_ok-reserve-3.ensures.len,
      c.self.invariant.1.seats_len,
      c.len.ensures,
    );
    table = λ _. omega (arith, c.in_ok-make_counts.ensures.long);
    whole = λ _. c.in_ok-make_counts.ensures.long;
  },
)
