-- Answers to the goals of `modes::Modes::add`.
use Rattle.std.proofs.Common.{◌≡◌, ◌+◌, ◌-◌, refl, length, arith, vec_len}
use Rattle.rl_base.specs.declared.places.Place.TheVariants.{Mode}
use Rattle.rl_modes.proofs.News.{length-with_one}
use Rattle.rl_modes.proofs.modes.Modes.add.Goals as goal

pub invariant_of-self : goal.invariant_of-self
invariant_of-self c =
    let room = rw (← c.self.view_is) at c.requires.room in
    rw c.enter.ensures (record {
      rising = c.self.invariant.rising;
      within = omega (
        arith,
        length-with_one (record { place = Mode c.args.m; item = c.args.i })
            c.self.inside.holdings.held,
        room,
        c.self.invariant.within,
      );
      fits = c.self.invariant.fits;
    })

pub returns-clause-added : goal.returns-clause-added
returns-clause-added c =
    let room : c.self.inside.holdings.capacity - (length c.self.inside.holdings.held + 1 + vec_len
    c.self.inside.further) ≡ c.self.inside.holdings.capacity - (length c.self.inside.holdings.held + vec_len
    c.self.inside.further) - 1 = omega arith in
    rw (← c.self.view_is, c.enter.ensures, length-with_one, room) refl
