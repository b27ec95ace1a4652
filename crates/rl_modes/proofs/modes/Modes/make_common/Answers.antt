-- Answers to the goals of `modes::Modes::make_common`.
use Rattle.std.proofs.Common.{ap, sym, ◌∙◌, ◌∷◌, length, suc, arith}
use Rattle.rl_base.specs.declared.places.Place.TheVariants.{Common, Mode}
use Rattle.rl_base.specs.Modes.{items_gained}
use Rattle.rl_modes.specs.Fields.{Held}
use Rattle.rl_modes.specs.Loops.{Loop, holds_at, items_at, with_these, each_in, with_mode}
use Rattle.rl_modes.proofs.Sound.{modes_parted, gained_count, mode_put, rising_put}
use Rattle.rl_modes.proofs.modes.Modes.make_common.Goals as goal

pub spot_of-spot-requires : goal.spot_of-spot-requires
spot_of-spot-requires c = rw c.as_slice.ensures.value (modes_parted c.args.m c.self.inside.further.items
    (λ i j d lt below. c.self.invariant.rising (suc i) (suc j) d (omega arith) (omega arith)))

pub invariant_of-self : goal.invariant_of-self
invariant_of-self c =
    let room = rw (← c.self.view_is) at c.requires.room in
    let cut = rw c.as_slice.ensures.value at c.spot_of-spot.ensures in
    let new = rw (← c.self.view_is) at (sym c.is_common.ensures ∙ c.if-is_common.false) in
    let gained = gained_count c.args.m c.self.inside.holdings c.gain_each.new.holdings
    (items_at Common c.self.inside.holdings.held) c.gain_each.ensures.gained c.gain_each.ensures.rising in
    record {
      rising = rw c.put_at.ensures.items (rising_put c.args.m c.self.inside.further.items c.spot_of-spot.result
          c.self.invariant.rising cut new);
      within = omega (
        arith,
        room,
        gained.1,
        gained.2,
        c.put_at.ensures.len,
        ap {A = Held} (λ h. h.capacity)
            c.gain_each.ensures.gained,
        c.self.invariant.within,
      );
      fits = omega (
        arith,
        c.put_at.ensures.capacity,
        ap {A = Held} (λ h. h.capacity) c.gain_each.ensures.gained,
        c.self.invariant.fits,
      );
    }

pub returns-clause-held : goal.returns-clause-held
returns-clause-held c =
    let room = rw (← c.self.view_is) at c.requires.room in
    let cut = rw c.as_slice.ensures.value at c.spot_of-spot.ensures in
    let new = rw (← c.self.view_is) at (sym c.is_common.ensures ∙ c.if-is_common.false) in
    let gained = gained_count c.args.m c.self.inside.holdings c.gain_each.new.holdings
    (items_at Common c.self.inside.holdings.held) c.gain_each.ensures.gained c.gain_each.ensures.rising in
    ap {A = Held} (λ h. h.held) gained.0
    ∙ ap {A = Loop} (λ v. with_these (each_in (Mode c.args.m) (items_gained
    (λ i. holds_at v.held i.id (Mode c.args.m)) (items_at Common v.held))) v.held) c.self.view_is

pub returns-clause-common_modes : goal.returns-clause-common_modes
returns-clause-common_modes c =
    let room = rw (← c.self.view_is) at c.requires.room in
    let cut = rw c.as_slice.ensures.value at c.spot_of-spot.ensures in
    let new = rw (← c.self.view_is) at (sym c.is_common.ensures ∙ c.if-is_common.false) in
    ap (λ ns. 0 ∷ ns) c.put_at.ensures.items ∙ (sym (mode_put c.args.m c.self.inside.further.items
    c.spot_of-spot.result c.self.invariant.rising cut new) ∙ ap {A = Loop}
    (λ v. with_mode c.args.m v.common_modes) c.self.view_is)

pub returns-clause-room : goal.returns-clause-room
returns-clause-room c =
    let room = rw (← c.self.view_is) at c.requires.room in
    let cut = rw c.as_slice.ensures.value at c.spot_of-spot.ensures in
    let new = rw (← c.self.view_is) at (sym c.is_common.ensures ∙ c.if-is_common.false) in
    let gained = gained_count c.args.m c.self.inside.holdings c.gain_each.new.holdings
    (items_at Common c.self.inside.holdings.held) c.gain_each.ensures.gained c.gain_each.ensures.rising in
    let same = ap {A = Loop} (λ v. length (items_gained (λ i. holds_at v.held i.id (Mode c.args.m))
    (items_at Common v.held))) c.self.view_is in
    let was = ap {A = Loop} (λ v. v.room) c.self.view_is in
    omega (
      arith,
      room,
      gained.1,
      gained.2,
      same,
      was,
      c.put_at.ensures.len,
      ap {A = Held} (λ h. h.capacity)
          c.gain_each.ensures.gained,
      c.self.invariant.within,
    )
