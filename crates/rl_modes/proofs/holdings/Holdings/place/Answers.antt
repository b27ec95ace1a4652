-- Answers to the goals of `holdings::Holdings::place`.
use Rattle.std.proofs.Common.{◌≡◌, ◌∙◌, ap, drop, slice_get}
use Rattle.rl_base.specs.Modes.{rank, places_of, all_modes}
use Rattle.rl_modes.specs.Loops.{holds_at}
use Rattle.rl_modes.specs.Fields.{paired}
use Rattle.rl_base.specs.declared.places.Place.TheVariants.{Common}
use Rattle.rl_modes.proofs.Orders.{order_parted}
use Rattle.rl_modes.proofs.Places.{places_are}
use Rattle.rl_modes.proofs.Looks.{place_found}
use Rattle.rl_modes.proofs.holdings.Holdings.place.Goals as goal

pub seat_of-first-requires : goal.seat_of-first-requires
seat_of-first-requires c = rw c.as_slice.ensures.value (order_parted (λ s. s.item) (λ s. rank s.place) c.args.item
    (rank Common) c.self.inside.seats.items c.self.invariant.0.seats_in_order)

pub returns-in-Some : goal.returns-in-Some
returns-in-Some c =
    let seen : paired c.self.inside.places.items c.self.inside.items.items ≡ c.args.self.now.held = ap (λ v. v.held)
    c.self.view_is in
    (c.place_if.ensures ∙ place_found c.args.item c.args.k _ c.self.inside.seats.items _ c.seat_of-first.result _
    c.self.invariant.0.seats_in_order (rw c.as_slice.ensures.value at c.seat_of-first.ensures.cut)
    (c.self.invariant.0.seated c.args.item) (c.split_at.ensures.back ∙ ap (drop c.seat_of-first.result)
    c.as_slice-2.ensures.value) c.in-Some.ensures ∙ ap (λ ps. slice_get ps c.args.k)
    (places_are c.args.item _ c.self.invariant.0.ordered) ∙ ap (λ held. slice_get
    (places_of (holds_at held c.args.item) all_modes) c.args.k) seen)

pub returns-in-None : goal.returns-in-None
returns-in-None c =
    let seen : paired c.self.inside.places.items c.self.inside.items.items ≡ c.args.self.now.held = ap (λ v. v.held)
    c.self.view_is in
    (place_found c.args.item c.args.k _ c.self.inside.seats.items _ c.seat_of-first.result _
    c.self.invariant.0.seats_in_order (rw c.as_slice.ensures.value at c.seat_of-first.ensures.cut)
    (c.self.invariant.0.seated c.args.item) (c.split_at.ensures.back ∙ ap (drop c.seat_of-first.result)
    c.as_slice-2.ensures.value) c.in-None.ensures ∙ ap (λ ps. slice_get ps c.args.k)
    (places_are c.args.item _ c.self.invariant.0.ordered) ∙ ap (λ held. slice_get
    (places_of (holds_at held c.args.item) all_modes) c.args.k) seen)
