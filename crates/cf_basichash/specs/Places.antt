-- The index beside the rows of a table: so many places, each empty or with the number of a row. It is open addressing
-- with linear probing, where what follows a place that becomes empty moves up (Knuth, The Art of Computer Programming,
-- volume 3, section 6.4, algorithms L and R). That a place has the row's number and not its key, and that the hashes
-- stand in a list of their own in the order of the rows, is this project's own.
use Rattle.std.specs.Prelude.{◌≡◌, ◌≢◌, ℕ, ◌+◌, ◌-◌, ◌*◌, ◌%◌, ◌<◌, ◌≤◌, ◌⊎◌, List, [], ◌∷◌, length, slice_index, slice_set, nat_eq, nat_le, nat_lt, if◌then◌else◌}
use Rattle.std.specs.Int.{IsPowerOfTwo}

-- what an index is to the table: the hash of each row's key, the places, and for how many more rows there is room.
-- An empty place has 0, and a place with row r has r + 1
pub record Places : Type 0 where
  pub hashes : List ℕ
  pub places : List ℕ
  pub room : ℕ

-- how many steps lead from a place on to another, of n places, where the first follows the last
unfoldable pub steps : ℕ → ℕ → ℕ → ℕ
steps n from to = if nat_le from to then to - from else to + (n - from)

-- q is the place that follows p, of n places
pub record IsNext (n p q : ℕ) : Type 0 where
  pub within : q < n
  pub turn : ((p + 1 < n) × (q ≡ p + 1)) ⊎ ((p + 1 ≡ n) × (q ≡ 0))

-- 1 if x is the number, else 0
unfoldable pub hit : ℕ → ℕ → ℕ
hit number x = if nat_eq x number then 1 else 0

-- how often a number stands in the places
unfoldable pub copies : ℕ → List ℕ → ℕ
copies number [] = 0
copies number (x ∷ xs) = hit number x + copies number xs

-- the home of the row at a place: its hash modulo the number of places
abbrev pub home_at : List ℕ → List ℕ → ℕ → ℕ
home_at hashes places p = slice_index hashes (slice_index places p - 1) % length places

-- from the home on, up to place p, no place is empty
pub record IsReached (places : List ℕ) (home p : ℕ) : Type 0 where
  pub full : (x : ℕ) → x < length places → steps (length places) home x < steps (length places) home p
      → 0 < slice_index places x

-- each place has an empty one's number or that of a row, and from each row's home up to its place none is empty
pub record AreReached (hashes places : List ℕ) : Type 0 where
  pub known : (p : ℕ) → slice_index places p ≤ length hashes
  pub reached : (p : ℕ) → 0 < slice_index places p → IsReached places (home_at hashes places p) p

-- the rule of the index: each row stands exactly once, the other places are empty, and from each row's home up to its
-- place none is empty
pub record IsIndex (hashes places : List ℕ) : Type 0 where
  pub once : (r : ℕ) → r < length hashes → copies (r + 1) places ≡ 1
  pub empty : copies 0 places + length hashes ≡ length places
  pub ways : AreReached hashes places

-- the index of a table: its rule, where the places are none or a power of two and at least twice the rows and the
-- room, and the list of hashes has capacity for them
pub record IsIndexWithin (hashes places : List ℕ) (room capacity : ℕ) : Type 0 where
  pub rule : IsIndex hashes places
  pub power : 0 < length places → IsPowerOfTwo (length places)
  pub twice : 2 * (length hashes + room) ≤ length places
  pub within : length hashes + room ≤ capacity

-- p is the first place from the home on that has the number
pub record IsFirst (places : List ℕ) (home number p : ℕ) : Type 0 where
  pub within : p < length places
  pub there : slice_index places p ≡ number
  pub before : (x : ℕ) → x < length places → steps (length places) home x < steps (length places) home p
      → slice_index places x ≢ number

-- the places after a number is put into the first empty one from the home on
pub record IsPut (old new : List ℕ) (home number : ℕ) : Type 0 where
  pub place : ℕ
  pub first : IsFirst old home 0 place
  pub put : new ≡ slice_set old place number

-- what becomes of a hole where a later place is looked at: what stands there moves into the hole if its way from home
-- leads over it, and leaves the hole `left`
abbrev pub IsShifted : List ℕ → List ℕ → List ℕ → ℕ → ℕ → ℕ → Type 0
IsShifted hashes old new hole place left =
    ((steps (length old) (home_at hashes old place) hole < steps (length old) (home_at hashes old place) place)
    × (new ≡ slice_set old hole (slice_index old place)) × (left ≡ place))
    ⊎ ((steps (length old) (home_at hashes old place) place ≤ steps (length old) (home_at hashes old place) hole)
    × (new ≡ old) × (left ≡ hole))

-- the places after what stands at one goes, and later ones move up so that each is reached
pub record IsClosed (hashes old new : List ℕ) (place : ℕ) : Type 0 where
  pub size : length new ≡ length old
  pub rest : (number : ℕ) → copies number new ≡ copies number (slice_set old place 0)
  pub ways : AreReached hashes new

-- the number of a row after the row with the number `gone` is taken out: later ones become less by 1
abbrev pub lower : ℕ → ℕ → ℕ
lower gone number = if nat_lt gone number then number - 1 else number
