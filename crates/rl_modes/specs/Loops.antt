-- What a run loop's modes are to their callers: what each place holds, which modes are common, and for how much more
-- there is room. After the Run Loops guide; that all stands by number is this project's own.
use Rattle.std.specs.Prelude.{ℕ, ◌==◌, Bool, ◌&&◌, ◌||◌, not, List, [], ◌∷◌, map, filter, nat_lt, if◌then◌else◌}
use Rattle.std.specs.List.{list_any}
use Rattle.cf_ids.specs.declared.numbers.Item.{Item}
use Rattle.rl_base.specs.declared.places.Place.{Place}
use Rattle.rl_base.specs.declared.places.Place.TheVariants.{Common, Mode}
use Rattle.rl_base.specs.Modes.{rank, items_gained}

-- an item in a place
pub record Holding : Type 0 where
  pub place : Place
  pub item : Item

-- what the places hold, by place and in each place by the items' numbers; the numbers of the common modes, by number;
-- and how much more can come, each item in a place and each common mode counted as one, before memory has to be taken
pub record Loop : Type 0 where
  pub held : List Holding
  pub common_modes : List ℕ
  pub room : ℕ

-- ---- what is there

-- whether a holding is of this item in this place. The number alone decides
abbrev pub is_of : ℕ → Place → Holding → Bool
is_of i p h = (rank h.place == rank p) && (h.item.id == i)

-- whether a place holds the item of this number
abbrev pub holds_at : List Holding → ℕ → Place → Bool
holds_at held i p = list_any (is_of i p) held

-- the items that a place holds, by number
abbrev pub items_at : Place → List Holding → List Item
items_at p held = map (λ h. h.item) (filter (λ h. rank h.place == rank p) held)

-- whether it is the number of one of these modes
abbrev pub is_among : ℕ → List ℕ → Bool
is_among m = list_any (λ n. n == m)

-- ---- what comes and goes

-- whether a holding stands before those of this item in this place
abbrev pub stands_before : ℕ → Place → Holding → Bool
stands_before i p h = nat_lt (rank h.place) (rank p) || ((rank h.place == rank p) && nat_lt h.item.id i)

-- the holdings with a further one, in order
abbrev pub with_one : Holding → List Holding → List Holding
with_one new [] = new ∷ []
with_one new (h ∷ hs) =
    if stands_before new.item.id new.place h then h ∷ with_one new hs else new ∷ h ∷ hs

-- the holdings with further ones, each put in order
abbrev pub with_these : List Holding → List Holding → List Holding
with_these [] held = held
with_these (new ∷ news) held = with_these news (with_one new held)

-- an item in each of these places
abbrev pub in_each : Item → List Place → List Holding
in_each i = map (λ p. record { place = p; item = i })

-- each of these items in a place
abbrev pub each_in : Place → List Item → List Holding
each_in p = map (λ i. record { place = p; item = i })

-- the common items that a mode gets when it becomes common
abbrev pub common_gained : ℕ → List Holding → List Item
common_gained m held = items_gained (λ i. holds_at held i.id (Mode m)) (items_at Common held)

-- the holdings without those of this item in these places
abbrev pub without : ℕ → List Place → List Holding → List Holding
without i ps = filter (λ h. not (list_any (λ p. is_of i p h) ps))

-- the modes with a further one, in order
abbrev pub with_mode : ℕ → List ℕ → List ℕ
with_mode m [] = m ∷ []
with_mode m (n ∷ ns) = if nat_lt n m then n ∷ with_mode m ns else m ∷ n ∷ ns
