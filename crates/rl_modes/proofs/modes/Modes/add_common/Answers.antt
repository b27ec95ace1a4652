-- Answers to the goals of `modes::Modes::add_common`.
use Rattle.std.proofs.Common.{ap, ◌∙◌, length, arith}
use Rattle.rl_base.specs.declared.places.Place.TheVariants.{Common, Mode}
use Rattle.rl_base.specs.Modes.{places_entered}
use Rattle.rl_modes.specs.Fields.{Held}
use Rattle.rl_modes.specs.Loops.{Loop, holds_at, with_these, in_each}
use Rattle.rl_modes.proofs.News.{length-entered}
use Rattle.rl_modes.proofs.Sound.{entered_all, entered_count, entered_most}
use Rattle.rl_modes.proofs.modes.Modes.add_common.Goals as goal

pub enter-requires-2 : goal.enter-requires-2
enter-requires-2 c =
    let room = rw (← c.self.view_is) at c.requires.room in
    let first = length-entered (record { place = Common; item = c.args.i }) c.self.inside.holdings.held in
    rw c.enter.ensures (omega (arith, room, c.self.invariant.within, first))

pub enter_each-requires : goal.enter_each-requires
enter_each-requires c =
    let room = rw (← c.self.view_is) at c.requires.room in
    let first = length-entered (record { place = Common; item = c.args.i }) c.self.inside.holdings.held in
    let second = length-entered (record { place = Mode 0; item = c.args.i }) c.enter.new.holdings.held in
    omega (
      arith,
      room,
      c.self.invariant.within,
      first,
      second,
      ap {A = Held} (λ h. length h.held) c.enter.ensures,
      ap
          {A = Held} (λ h. length h.held) c.enter-2.ensures,
      ap {A = Held} (λ h. h.capacity) c.enter.ensures,
      ap
          {A = Held} (λ h. h.capacity) c.enter-2.ensures,
      c.as_slice.ensures.len,
      ap length c.as_slice.ensures.value,
    )

pub invariant_of-self : goal.invariant_of-self
invariant_of-self c =
    let room = rw (← c.self.view_is) at c.requires.room in
    let long = ap length c.as_slice.ensures.value in
    let all = entered_all c.args.i c.self.inside.further.items c.self.inside.holdings c.enter.new.holdings
    c.enter-2.new.holdings c.enter_each.new.holdings c.self.invariant.rising c.enter.ensures c.enter-2.ensures
    (rw c.as_slice.ensures.value at c.enter_each.ensures) in
    let count = entered_count c.args.i c.self.inside.further.items c.self.inside.holdings c.enter_each.new.holdings
    all in
    let most = entered_most c.args.i c.self.inside.further.items c.self.inside.holdings.held in
    record {
      rising = c.self.invariant.rising;
      within = omega (
        arith,
        room,
        long,
        count,
        most,
        c.as_slice.ensures.len,
        ap {A = Held} (λ h. h.capacity) all,
        c.self.invariant.within,
      );
      fits = omega (arith, ap {A = Held} (λ h. h.capacity) all, c.self.invariant.fits);
    }

pub returns-clause-held : goal.returns-clause-held
returns-clause-held c =
    let room = rw (← c.self.view_is) at c.requires.room in
    let long = ap length c.as_slice.ensures.value in
    let all = entered_all c.args.i c.self.inside.further.items c.self.inside.holdings c.enter.new.holdings
    c.enter-2.new.holdings c.enter_each.new.holdings c.self.invariant.rising c.enter.ensures c.enter-2.ensures
    (rw c.as_slice.ensures.value at c.enter_each.ensures) in
    let count = entered_count c.args.i c.self.inside.further.items c.self.inside.holdings c.enter_each.new.holdings
    all in
    let most = entered_most c.args.i c.self.inside.further.items c.self.inside.holdings.held in
    ap {A = Held} (λ h. h.held) all
    ∙ ap {A = Loop} (λ v. with_these (in_each c.args.i (places_entered (holds_at v.held c.args.i.id) v.common_modes))
    v.held) c.self.view_is

pub returns-clause-room : goal.returns-clause-room
returns-clause-room c =
    let room = rw (← c.self.view_is) at c.requires.room in
    let long = ap length c.as_slice.ensures.value in
    let all = entered_all c.args.i c.self.inside.further.items c.self.inside.holdings c.enter.new.holdings
    c.enter-2.new.holdings c.enter_each.new.holdings c.self.invariant.rising c.enter.ensures c.enter-2.ensures
    (rw c.as_slice.ensures.value at c.enter_each.ensures) in
    let count = entered_count c.args.i c.self.inside.further.items c.self.inside.holdings c.enter_each.new.holdings
    all in
    let most = entered_most c.args.i c.self.inside.further.items c.self.inside.holdings.held in
    let same = ap {A = Loop} (λ v. length (places_entered (holds_at v.held c.args.i.id) v.common_modes))
    c.self.view_is in
    let was = ap {A = Loop} (λ v. v.room) c.self.view_is in
    omega (
      arith,
      room,
      long,
      count,
      most,
      same,
      was,
      c.as_slice.ensures.len,
      ap {A = Held} (λ h. h.capacity) all,
      c.self.invariant.within,
    )
