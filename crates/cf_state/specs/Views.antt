-- Parts of the program as the definitions have them.
use Rattle.std.specs.Prelude.{ℕ, List, Option, Some, None}
use Rattle.cf_plain.specs.Views.{item_of}
use Rattle.cf_model.specs.State as state
use Rattle.cf_model.specs.Things as things
use Rattle.cf_state.specs.declared.parts.Sleep.{Sleep}
use Rattle.cf_state.specs.declared.parts.Sleep.TheVariants.{Awake, Until}

-- a sleep
abbrev pub sleeping_of : Sleep → state.Sleeping
sleeping_of Awake = state.awake
sleeping_of (Until date) = state.until date
