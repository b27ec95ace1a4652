-- What a run loop's places hold, over tests and lists, so that a loop's own lists and a state of references can both
-- be put in. After the Run Loops guide: modes, and common modes with the items that each of them gets.
use Rattle.std.specs.Prelude.{ℕ, ◌+◌, Bool, true, false, not, List, ◌∷◌, map, filter}
use Rattle.std.specs.List.{list_any, range_with_len}
use Rattle.cf_ids.specs.declared.numbers.ItemKind.{ItemKind}
use Rattle.cf_ids.specs.declared.numbers.ItemKind.TheVariants.{Source, Timer, Observer}
use Rattle.rl_base.specs.declared.places.Place.{Place}
use Rattle.rl_base.specs.declared.places.Place.TheVariants.{Common, Mode}
use Rattle.cf_ids.specs.declared.limits.TheConstants.{MODES}

-- ---- places

-- the order of a loop's places: the common items first, then the modes by number. This project's own
abbrev pub rank : Place → ℕ
rank Common = 0
rank (Mode m) = m + 1

-- the numbers that modes can have, in order
unfoldable pub all_modes : List ℕ
all_modes = range_with_len 0 MODES

-- the common items and these modes, as places
abbrev pub places : List ℕ → List Place
places modes = Common ∷ map Mode modes

-- the places that hold an item, of the common items and these modes: of all modes, where the item is; of the common
-- modes, what it leaves when it is taken out of the common items. A mode that is not common keeps it, and a common
-- mode does not, also one to which it was added by itself
abbrev pub places_of : (Place → Bool) → List ℕ → List Place
places_of holds modes = filter holds (places modes)

-- the places that an item enters when it is added to the common items, which do not hold it: the common items, and
-- each of the common modes that does not hold it yet
abbrev pub places_entered : (Place → Bool) → List ℕ → List Place
places_entered holds common_modes = filter (λ p. not (holds p)) (places common_modes)

-- what a mode gets when it becomes common: each common item that it does not hold yet
abbrev pub items_gained : {I : Type 0} → (I → Bool) → List I → List I
items_gained holds common_items = filter (λ i. not (holds i)) common_items

-- ---- empty modes

-- a source or a timer keeps a mode from being empty, an observer does not
abbrev pub keeps_open : ItemKind → Bool
keeps_open Source = true
keeps_open Timer = true
keeps_open Observer = false

-- a mode is empty exactly if it holds no source and no timer. The test says of an item in the list whether the mode
-- holds it and it is a source or a timer
abbrev pub is_empty : {I : Type 0} → (I → Bool) → List I → Bool
is_empty keeps items = not (list_any keeps items)
