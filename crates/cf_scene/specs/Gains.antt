-- What a mode gains that becomes a common one. This project's own.
use Rattle.std.specs.Prelude.{ℕ, ◌≤◌, List, [], length, map, Option, Some, None}
use Rattle.rl_base.specs.declared.places.Place.TheVariants.{Common as CommonItems}
use Rattle.rl_modes.specs.Loops.{Loop, items_at}
use Rattle.cf_syntax.specs.declared.statement.Statement.{Statement}
use Rattle.cf_syntax.specs.declared.statement.Statement.TheVariants as forms
use Rattle.cf_model.specs.State.{State}
use Rattle.cf_model.specs.Deals.{common_deal, thread_in, with_used}
use Rattle.cf_loops.specs.Following.{loop_at}

-- the objects of what the mode gains that a `common` names; another statement gains nothing in this way
abbrev pub shared_gains : State → (t : ℕ) → Statement → List ℕ
shared_gains st t (forms.Common thread mode) =
    map (λ r. r.object) (with_used st.parts (thread_in t thread) (λ w. common_deal st w mode)).enters
shared_gains st t _ = []

-- so many are as many as a loop has common items
abbrev pub HoldsCommon : List Loop → Option ℕ → (room : ℕ) → Type 0
HoldsCommon loops None room = Unit {0}
HoldsCommon loops (Some w) room = length (items_at CommonItems (loop_at w loops).held) ≤ room

-- there is room for as many as the loop that a `common` names has
abbrev pub GainsFit : List Loop → (t : ℕ) → Statement → (room : ℕ) → Type 0
GainsFit loops t (forms.Common thread mode) room = HoldsCommon loops (thread_in t thread) room
GainsFit loops t _ room = Unit {0}
