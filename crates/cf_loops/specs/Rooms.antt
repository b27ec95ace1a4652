-- For how much a loop needs room before an entry over it. This project's own.
use Rattle.std.specs.Prelude.{◌≡◌, ℕ, ◌+◌, ◌≤◌, List, length, slice_set}
use Rattle.rl_base.specs.declared.places.Place.{Place}
use Rattle.rl_base.specs.declared.places.Place.TheVariants.{Common, Mode}
use Rattle.rl_modes.specs.Loops.{Loop, items_at}
use Rattle.cf_loops.specs.Following.{loop_at}

-- the most that an item needs which is added to a place: for the common items one in each common mode too
abbrev pub most_added : Place → Loop → ℕ
most_added Common l = 1 + length l.common_modes
most_added (Mode m) l = 1

-- the most that a mode needs which becomes a common one: one for itself, and one for each common item
abbrev pub most_gained : Loop → ℕ
most_gained l = 1 + length (items_at Common l.held)

-- the loops with at least as much room in that of a thread
pub record HasMoreRoom (t : ℕ) (before after : List Loop) : Type 0 where
  pub only_room : after ≡ slice_set before t (record (loop_at t before) { room = (loop_at t after).room })
  pub room : (loop_at t before).room ≤ (loop_at t after).room
