-- Who holds a reference, finer than the owners that callers see. The Memory Management guide knows owners alone;
-- which of a thread's frames and variables holds what is this project's own.
use Rattle.std.specs.Prelude.{ℕ, Bool, ◌&&◌, ◌==◌}
use Rattle.cf_graph.specs.declared.edge.Owner.{Owner}
use Rattle.cf_graph.specs.declared.edge.Owner.TheVariants.{Thread, Parcel, Slot, Mode, Common}

-- a variable of a frame, where a frame is named by its depth: how many are below it in its thread's stack; the
-- callout of a frame, which holds its item; a thread that was given out a reference and owes its release; a place of
-- the parcel that setup packs for a thread; a slot of a body; a mode, and the common items, of a thread's run loop
pub data Holder : Type 0 where
  variable : (thread depth var : ℕ) → Holder
  callout : (thread depth : ℕ) → Holder
  owed : (thread : ℕ) → Holder
  parcel : (thread place : ℕ) → Holder
  slot : (body : ℕ) → Holder
  in_mode : (thread mode : ℕ) → Holder
  in_common : (thread : ℕ) → Holder

-- a holder as numbers, by which two of them are told apart
pub record Code : Type 0 where
  pub kind : ℕ
  pub first : ℕ
  pub second : ℕ
  pub third : ℕ

-- a kind of holder with three numbers of its own
abbrev pub coded : ℕ → ℕ → ℕ → ℕ → Code
coded k a b c = record { kind = k; first = a; second = b; third = c }

-- the numbers of a holder: what it is, and up to three numbers of its own
abbrev pub code_of : Holder → Code
code_of (variable t d v) = coded 0 t d v
code_of (callout t d) = coded 1 t d 0
code_of (owed t) = coded 2 t 0 0
code_of (parcel t k) = coded 3 t k 0
code_of (slot b) = coded 4 b 0 0
code_of (in_mode t m) = coded 5 t m 0
code_of (in_common t) = coded 6 t 0 0

-- two holders have the same numbers
abbrev pub same_code : Code → Code → Bool
same_code a b =
    (a.kind == b.kind) && ((a.first == b.first) && ((a.second == b.second) && (a.third == b.third)))

-- two holders are the same one
abbrev pub same_holder : Holder → Holder → Bool
same_holder a b = same_code (code_of a) (code_of b)

-- the owner that callers see: the holder with its detail forgotten
abbrev pub owner_of : Holder → Owner
owner_of (variable t d v) = Thread t
owner_of (callout t d) = Thread t
owner_of (owed t) = Thread t
owner_of (parcel t k) = Parcel t
owner_of (slot b) = Slot b
owner_of (in_mode t m) = Mode t m
owner_of (in_common t) = Common t
