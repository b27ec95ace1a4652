-- What a walk over references keeps as it goes. Places are numbers: threads and parcels are at place 0, modes and
-- common items at place 1, and object o is at place o + 2. This project's own.
use Rattle.std.specs.Prelude.{◌≡◌, ℕ, ◌+◌, ◌-◌, ◌<◌, ◌≤◌, ◌≢◌, ◌⊎◌, Bool, true, false, not, List, map, length, slice_index, slice_index_or, count_by, Contains}
use Rattle.cf_graph.specs.declared.edge.Edge.{Edge}
use Rattle.cf_graph.specs.declared.edge.Owner.{Owner}
use Rattle.cf_graph.specs.declared.edge.Owner.TheVariants.{Thread, Parcel, Slot, Mode, Common}

-- the place from which an owner's references lead
abbrev pub source : Owner → ℕ
source (Thread t) = 0
source (Parcel t) = 0
source (Slot b) = b + 2
source (Mode t m) = 1
source (Common t) = 1

-- the places from which references lead
abbrev pub sources : List Edge → List ℕ
sources es = map (λ e. source e.owner) es

-- the places to which references lead
abbrev pub targets : List Edge → List ℕ
targets es = map (λ e. e.object + 2) es

-- the number k is one more than the last one below n of a reference that leads from p, or 0 if there is none
pub record IsLatest (froms : List ℕ) (p n k : ℕ) : Type 0 where
  pub within : k ≤ n
  pub here : 0 < k → slice_index froms (k - 1) ≡ p
  pub later : (j : ℕ) → k ≤ j → j < n → slice_index froms j ≢ p

-- of the first n references: the latest of each place, and of each reference the latest before it of the same place
pub record IsLinked (froms : List ℕ) (n : ℕ) (latest before : List ℕ) : Type 0 where
  pub places : length latest ≡ 66562
  pub number : length before ≡ n
  pub heads : (p : ℕ) → p < 66562 → IsLatest froms p n (slice_index latest p)
  pub links : (i : ℕ) → i < n → IsLatest froms (slice_index froms i) i (slice_index before i)

-- a place is marked
abbrev pub Marked : List Bool → ℕ → Type 0
Marked marks q = slice_index_or marks q false ≡ true

-- how many places are not marked
abbrev pub marks_left : List Bool → ℕ
marks_left marks = count_by not marks

-- a reference leads from one place to the other
pub record Leads (froms tos : List ℕ) (p q : ℕ) : Type 0 where
  pub at : ℕ
  pub within : at < length froms
  pub from : slice_index froms at ≡ p
  pub to : slice_index tos at ≡ q

-- marks and the stack of what waits, before and after the references from p with numbers of at least k are followed
pub record Grows (froms tos : List ℕ) (p k : ℕ) (old new : List Bool) (had has : List ℕ) : Type 0 where
  pub size : length new ≡ length old
  pub kept : (q : ℕ) → Marked old q → Marked new q
  pub followed : (j : ℕ) → k ≤ j → j < length froms → slice_index froms j ≡ p → Marked new (slice_index tos j)
  pub found : (q : ℕ) → Marked new q → Marked old q ⊎ (Contains has q × Leads froms tos p q)
  pub waiting : (q : ℕ) → Contains has q → Contains had q ⊎ Marked new q
  pub stacked : (q : ℕ) → Contains had q → Contains has q
  pub spent : marks_left new + length has ≡ marks_left old + length had
