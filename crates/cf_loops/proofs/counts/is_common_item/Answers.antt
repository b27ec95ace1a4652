use Rattle.std.proofs.Common.{◌≡◌, sym, subst, Some}
use Rattle.std.specs.Prelude.{slice_get}
use Rattle.rl_base.specs.declared.places.Place.{Place}
use Rattle.rl_base.specs.Modes.{all_modes}
use Rattle.rl_modes.specs.Loops.{holds_at}
use Rattle.cf_loops.specs.Changing.{places_at}
use Rattle.cf_loops.proofs.Counting.{first_common}
use Rattle.cf_loops.proofs.counts.is_common_item.Goals as goal

pub returns-in-Some-Common : goal.returns-in-Some-Common
returns-in-Some-Common c =
    sym (first_common (holds_at c.args.modes.now.held c.args.item) all_modes
    (subst (λ (q : Place). Some q ≡ slice_get (places_at c.args.item c.args.modes.now) 0) c.in-Some-Common.field-0-is c.in-Some-Common.ensures))
