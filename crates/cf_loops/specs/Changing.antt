-- What a call does to one loop, by what the loop holds. No public clause cites this module. This project's own.
use Rattle.std.specs.Prelude.{◌≡◌, ◌<◌, ◌≤◌, ℕ, Bool, true, not, ◌==◌, List, [], ◌∷◌, filter, length, if◌then◌else◌}
use Rattle.std.specs.List.{All}
use Rattle.cf_ids.specs.declared.limits.TheConstants.{MODES}
use Rattle.rl_base.specs.declared.places.Place.{Place}
use Rattle.rl_base.specs.declared.places.Place.TheVariants.{Common, Mode}
use Rattle.rl_base.specs.Modes.{rank, all_modes, places_of, places_entered}
use Rattle.rl_modes.specs.Loops.{Holding, Loop, holds_at, is_among, without}
use Rattle.cf_loops.specs.Following.{loop_at}

-- the places that an item enters which is added to a place
abbrev pub places_gained : ℕ → Place → Loop → List Place
places_gained i Common l = places_entered (holds_at l.held i) l.common_modes
places_gained i (Mode m) l = Mode m ∷ []

-- the places that an item leaves which is dropped from a place
abbrev pub places_left : ℕ → Place → Loop → List Place
places_left i Common l = places_of (holds_at l.held i) l.common_modes
places_left i (Mode m) l = Mode m ∷ []

-- what a loop holds after an item is dropped from a place, if it is there
abbrev pub held_after_drop : ℕ → Place → Loop → List Holding
held_after_drop i q l = if holds_at l.held i q then without i (places_left i q l) l.held else l.held

-- a place is the common items or a common mode
abbrev pub is_shared : List ℕ → Place → Bool
is_shared modes Common = true
is_shared modes (Mode m) = is_among m modes

-- the places of a loop that hold an item
abbrev pub places_at : ℕ → Loop → List Place
places_at i l = places_of (holds_at l.held i) all_modes

-- those of them that are the common items or a common mode
abbrev pub shared_places : ℕ → Loop → List Place
shared_places i l = filter (is_shared l.common_modes) (places_at i l)

-- how many places an item leaves which is dropped from a place
abbrev pub dropped_in : ℕ → Place → Loop → ℕ
dropped_in i Common l = if holds_at l.held i Common then length (shared_places i l) else 0
dropped_in i (Mode m) l = if holds_at l.held i (Mode m) then 1 else 0

-- what is not of this item
abbrev pub others : ℕ → List Holding → List Holding
others i held = filter (λ h. not (h.item.id == i)) held

-- modes have numbers below 1,024
abbrev pub AreLow : List Holding → Type 0
AreLow held = All (λ h. rank h.place ≤ MODES) held

-- a loop that an item is leaving, place by place
pub record IsLeaving (i : ℕ) (before now : Loop) : Type 0 where
  pub low : AreLow before.held → AreLow now.held
  pub others_stay : others i now.held ≡ others i before.held
  pub common_modes : now.common_modes ≡ before.common_modes

-- a loop that an item has left, whatever place held it
pub record HasLeft (i : ℕ) (before after : Loop) : Type 0 where
  pub held : AreLow before.held → after.held ≡ others i before.held
  pub common_modes : after.common_modes ≡ before.common_modes

-- the loops below a number are such, and the others are as before
pub record HaveLeft (i n : ℕ) (before after : List Loop) : Type 0 where
  pub count : length after ≡ length before
  pub left : (t : ℕ) → t < n → HasLeft i (loop_at t before) (loop_at t after)
  pub rest : (t : ℕ) → n ≤ t → loop_at t after ≡ loop_at t before
