-- Answers to the goals of `holdings::Holdings::holds`.
use Rattle.std.proofs.Common.{◌∙◌}
use Rattle.rl_base.specs.Modes.{rank}
use Rattle.rl_modes.proofs.Orders.{order_parted}
use Rattle.rl_modes.proofs.Kept.{seat_tells}
use Rattle.rl_modes.proofs.Looks.{seat_decides, no_seat}
use Rattle.rl_modes.proofs.holdings.Holdings.holds.Goals as goal

pub seat_of-seat-requires : goal.seat_of-seat-requires
seat_of-seat-requires c = rw c.as_slice.ensures.value (order_parted (λ s. s.item) (λ s. rank s.place) c.args.item
    (rank c.args.place.now) c.self.inside.seats.items c.self.invariant.0.seats_in_order)

pub returns-in-Some : goal.returns-in-Some
returns-in-Some c = rw (← c.self.view_is) (c.is_seat.ensures ∙ (seat_decides c.args.item c.args.place.now
    c.self.inside.seats.items _ c.self.invariant.0.seats_in_order (rw
    c.as_slice.ensures.value at c.seat_of-seat.ensures.cut) _ (rw c.as_slice-2.ensures.value at c.in-Some.ensures)
    ∙ seat_tells _ _ c.self.invariant.0.seated c.args.item c.args.place.now))

pub returns-in-None : goal.returns-in-None
returns-in-None c = rw (← c.self.view_is) (no_seat c.args.item c.args.place.now c.self.inside.seats.items _
    c.self.invariant.0.seats_in_order (rw c.as_slice.ensures.value at c.seat_of-seat.ensures.cut)
    (rw c.as_slice-2.ensures.value at c.in-None.ensures) ∙ seat_tells _ _ c.self.invariant.0.seated c.args.item
    c.args.place.now)
