-- How the holdings of a loop are kept. No public clause cites this module. All definitions here are this project's
-- own.
use Rattle.std.specs.Prelude.{◌≡◌, ◌+◌, ◌<◌, ◌≤◌, if◌then◌else◌, ℕ, ◌==◌, Bool, true, false, ◌&&◌, ◌||◌, List, [], ◌∷◌, length, map, filter, slice_index, slice_index_or, nat_lt, Vec, vec_len, vec_capacity, Option, Some, None}
use Rattle.std.specs.List.{AllPairs, All}
use Rattle.cf_ids.specs.declared.numbers.Item.{Item}
use Rattle.rl_base.specs.declared.places.Place.{Place}
use Rattle.rl_base.specs.declared.places.Place.TheVariants.{Mode}
use Rattle.rl_base.specs.Modes.{rank, keeps_open}
use Rattle.rl_modes.specs.Loops.{Holding, holds_at, with_one}
use Rattle.rl_modes.specs.declared.holdings.Seat.{Seat}
use Rattle.cf_ids.specs.declared.limits.TheConstants.{MODES}

-- what the holdings are to the loop: the holdings in order, and for how many there is memory
pub record Held : Type 0 where
  pub held : List Holding
  pub capacity : ℕ

-- places and items side by side
abbrev pub paired : List Place → List Item → List Holding
paired [] items = []
paired (p ∷ ps) [] = []
paired (p ∷ ps) (i ∷ is) = record { place = p; item = i } ∷ paired ps is

-- the place k parts the list into a front that passes the test and a rest that does not
pub record IsCut {A : Type 0} (test : A → Bool) (xs : List A) (k : ℕ) : Type 0 where
  pub within : k ≤ length xs
  pub front : (j : ℕ) (d : A) → j < k → test (slice_index_or xs j d) ≡ true
  pub rest : (j : ℕ) (d : A) → k ≤ j → j < length xs → test (slice_index_or xs j d) ≡ false

-- from `start` on places have at least this rank, and from `end` on a higher one
pub record IsRange (r : ℕ) (ps : List Place) (start end : ℕ) : Type 0 where
  pub from : IsCut (λ p. nat_lt (rank p) r) ps start
  pub to : IsCut (λ p. nat_lt (rank p) (r + 1)) ps end

-- one comes before another by a first key, and if these are equal by a second
pub record Precedes {A : Type 0} (first second : A → ℕ) (a b : A) : Type 0 where
  pub firsts : first a ≤ first b
  pub seconds : first a ≡ first b → second a < second b

-- holdings stand by place, then by item, and modes have numbers below 1,024
pub record IsOrdered (held : List Holding) : Type 0 where
  pub in_order : AllPairs (Precedes (λ h. rank h.place) (λ h. h.item.id)) held
  pub below : All (λ h. rank h.place ≤ MODES) held

-- whether a seat stands before that of this item in this place
abbrev pub sits_before : ℕ → Place → Seat → Bool
sits_before i p s = nat_lt s.item i || ((s.item == i) && nat_lt (rank s.place) (rank p))

-- whether a seat is that of this item in this place
abbrev pub is_seat : ℕ → Place → Seat → Bool
is_seat i p s = (s.item == i) && (rank s.place == rank p)

-- the places of what has this mark, in order
abbrev pub places_marked : {A : Type 0} → (A → ℕ) → (A → Place) → ℕ → List A → List Place
places_marked mark place i xs = map place (filter (λ x. mark x == i) xs)

-- the places of an item, among holdings
abbrev pub places_held : ℕ → List Holding → List Place
places_held = places_marked (λ h. h.item.id) (λ h. h.place)

-- the places of an item, among seats
abbrev pub places_seated : ℕ → List Seat → List Place
places_seated = places_marked (λ s. s.item) (λ s. s.place)

-- the place of a seat, if it is one of this item
abbrev pub place_if : ℕ → Option Seat → Option Place
place_if i None = None
place_if i (Some s) = if s.item == i then Some s.place else None

-- whether a holding keeps this mode from being empty
abbrev pub opens : ℕ → Holding → Bool
opens m h = (rank h.place == rank (Mode m)) && keeps_open h.item.kind

-- holdings and seats are in order and tell the same, and each mode's count is that of the holdings that keep it open
pub record IsKept (held : List Holding) (seats : List Seat) (running : List ℕ) : Type 0 where
  pub ordered : IsOrdered held
  pub seats_in_order : AllPairs (Precedes (λ s. s.item) (λ s. rank s.place)) seats
  pub seated : (i : ℕ) → places_seated i seats ≡ places_held i held
  pub counted : (m : ℕ) → slice_index running m ≡ length (filter (opens m) held)

-- the lists are as long as each other, and each has memory for so many elements
pub record HasRoom {Y : Type 0} (places : Vec Place Y) (items : Vec Item Y) (seats : Vec Seat Y) (running : Vec ℕ Y)
    (capacity : ℕ) : Type 0 where
  pub places_long : length places.items ≡ length items.items
  pub seats_long : length seats.items ≡ length items.items
  pub places_len : vec_len places ≡ vec_len items
  pub seats_len : vec_len seats ≡ vec_len items
  pub within : length items.items ≤ capacity
  pub len_within : vec_len items ≤ capacity
  pub places_fit : capacity ≤ vec_capacity places
  pub items_fit : capacity ≤ vec_capacity items
  pub seats_fit : capacity ≤ vec_capacity seats
  pub table : 0 < capacity → 0 < length running.items
  pub whole : 0 < length running.items → length running.items ≡ MODES

-- ---- the modes

-- the holdings with a further one if it is not there yet
abbrev pub entered : Holding → List Holding → List Holding
entered new held = if holds_at held new.item.id new.place then held else with_one new held

-- the holdings with further ones, each if it is not there yet
abbrev pub with_new : List Holding → List Holding → List Holding
with_new [] held = held
with_new (new ∷ news) held = with_new news (entered new held)

-- the common modes but `default` stand by number after it, and the memory is enough for all
pub record IsSound {Y : Type 0} (holdings : Held) (further : Vec ℕ Y) : Type 0 where
  pub rising : AllPairs (λ m n. m < n) (0 ∷ further.items)
  pub within : length holdings.held + vec_len further ≤ holdings.capacity
  pub fits : holdings.capacity ≤ vec_capacity further
