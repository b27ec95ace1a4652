-- What statements over run loops need before they are said. This project's own.
use Rattle.std.specs.Prelude.{ℕ, ◌≤◌, Bool, true, false, List, length, Option, Some, None}
use Rattle.rl_modes.specs.Loops.{Loop}
use Rattle.cf_syntax.specs.declared.script.Script.{Script}
use Rattle.cf_syntax.specs.declared.statement.Statement.{Statement}
use Rattle.cf_syntax.specs.declared.statement.Statement.TheVariants as forms
use Rattle.cf_model.specs.State.{Parts, State}
use Rattle.cf_model.specs.Things.{Thing}
use Rattle.cf_model.specs.Deals.{Deal, common_items, deal_of, place_in, thread_in, with_thing, with_used}
use Rattle.cf_loops.specs.Following.{loop_at}
use Rattle.cf_loops.specs.Rooms.{most_added, most_gained}

-- a statement acts on run loops: on their places, on items, or on the runs and sleeps of threads
abbrev pub acts_on_loops : Statement → Bool
acts_on_loops (forms.Add item thread mode) = true
acts_on_loops (forms.Drop item thread mode) = true
acts_on_loops (forms.Common thread mode) = true
acts_on_loops (forms.Signal source) = true
acts_on_loops (forms.Invalidate item) = true
acts_on_loops (forms.Wake thread) = true
acts_on_loops (forms.Stop thread) = true
acts_on_loops (forms.Run mode limit once) = true
acts_on_loops _ = false

-- ---- room

-- the loop of a thread, if there is one, has as much room as it needs
abbrev pub HasRoomIn : List Loop → Option ℕ → (Loop → ℕ) → Type 0
HasRoomIn loops None need = Unit {0}
HasRoomIn loops (Some w) need = need (loop_at w loops) ≤ (loop_at w loops).room

-- the loop that a statement names has room for what the statement adds
abbrev pub HasPlaceFor : (t : ℕ) → List Loop → Statement → Type 0
HasPlaceFor t loops (forms.Add item thread mode) = HasRoomIn loops (thread_in t thread) (most_added (place_in mode))
HasPlaceFor t loops (forms.Common thread mode) = HasRoomIn loops (thread_in t thread) most_gained
HasPlaceFor t loops _ = Unit {0}

-- ---- references

-- so many are as many as the common items of a thread's loop, if there is one
abbrev pub FitsCommon : State → Option ℕ → (more : ℕ) → Type 0
FitsCommon st None more = Unit {0}
FitsCommon st (Some w) more = length (common_items st w) ≤ more

-- a mode that becomes a common one gains each common item at most
abbrev pub GainsAtMost : State → (t : ℕ) → Statement → (more : ℕ) → Type 0
GainsAtMost st t (forms.Common thread mode) more = FitsCommon st (thread_in t thread) more
GainsAtMost st t _ more = Unit {0}

-- a deal moves so many references at most
pub record AtMost (more : ℕ) (deal : Deal) : Type 0 where
  pub enters : length deal.enters ≤ more
  pub leaves : length deal.leaves ≤ more

-- the deal by what may be an item in what may be a loop
abbrev pub placing : Parts → Option ℕ → Option ℕ → (ℕ → ℕ → Thing → Deal) → Deal
placing p item thread deal = with_thing p item (λ i x. with_used p thread (λ w. deal w i x))

-- a statement moves so many references at most
pub record MovesAtMost (s : Script) (t : ℕ) (st : State) (x : Statement) (used : List (Option ℕ)) (more : ℕ) : Type 0 where
  pub deal : AtMost more (deal_of s t st x used)
  pub common : GainsAtMost st t x more
