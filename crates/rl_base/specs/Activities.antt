-- Observers of run loops: when one is valid, and which are told of an activity. After the Run Loops guide, where an
-- observer names the activities that it is told of by the bits of a mask: Entry 1, BeforeTimers 2, BeforeSources 4,
-- BeforeWaiting 32, AfterWaiting 64, Exit 128. That being valid is a sentence about the calls so far is this project's
-- own.
use Rattle.std.specs.Prelude.{ℕ, ℤ, pos, Bool, true, false, ◌&&◌, not, List, [], Option, is_some, filter, fold, bit_and, ◌==◌}
use Rattle.std.specs.Option.{option_map_or}
use Rattle.rl_base.specs.declared.observers.ObserverState.{ObserverState}
use Rattle.rl_base.specs.History.{holds_since, AllAccepted, accepted_of, left_by}
use Rattle.rl_base.specs.Numbered.{kept_at, kept_with, changed_at}
use Rattle.rl_base.specs.Ranks.{sorted_by}

-- ---- the sentence

-- what is done to an observer: it is made, it is invalidated
pub data ObserverCall : Type 0 where
  observer_made : (o mask : ℕ) (repeats : Bool) (order : ℤ) → ObserverCall
  observer_invalidated : ℕ → ObserverCall

-- a call makes this observer
abbrev pub makes_observer : ℕ → ObserverCall → Bool
makes_observer o (observer_made n mask repeats order) = n == o
makes_observer o _ = false

-- a call invalidates this observer
abbrev pub invalidates_observer : ℕ → ObserverCall → Bool
invalidates_observer o (observer_invalidated n) = n == o
invalidates_observer o _ = false

-- after these calls o is valid: it was made, and not invalidated since
abbrev pub is_valid_observer : List ObserverCall → ℕ → Bool
is_valid_observer calls o = holds_since (makes_observer o) (invalidates_observer o) calls

-- ---- the bits of which the laws say that they are the sentence

-- the observer of number o, if it was made
abbrev pub observer_at : List ObserverState → ℕ → Option ObserverState
observer_at observers o = kept_at (λ x. x.number) o observers

-- the bit that says that an observer is valid; false if there is none of this number
abbrev pub observer_bit : List ObserverState → ℕ → Bool
observer_bit observers o = option_map_or (λ x. x.valid) (observer_at observers o) false

-- an observer is called again and again; false if there is none of this number
abbrev pub repeats_bit : List ObserverState → ℕ → Bool
repeats_bit observers o = option_map_or (λ x. x.repeats) (observer_at observers o) false

-- the observers after a call
abbrev pub observers_with : List ObserverState → ObserverCall → List ObserverState
observers_with observers (observer_made o mask repeats order) =
    kept_with
    (λ x. x.number)
    (record { number = o; mask = mask; repeats = repeats; order = order; valid = true })
    observers
observers_with observers (observer_invalidated o) =
    changed_at (λ x. x.number) o (λ x. record x { valid = false }) observers

-- whether a call is accepted: only what was not made is made, and only a valid observer is invalidated
abbrev pub is_accepted_observer : List ObserverState → ObserverCall → Bool
is_accepted_observer observers (observer_made o mask repeats order) = not (is_some (observer_at observers o))
is_accepted_observer observers (observer_invalidated o) = observer_bit observers o

-- each of these calls is accepted after those before it, if nothing was made before
abbrev pub AreAcceptedObservers : List ObserverCall → Type 0
AreAcceptedObservers calls = AllAccepted is_accepted_observer observers_with [] calls

-- the observers after these calls, if all are accepted
abbrev pub observers_after : List ObserverCall → List ObserverState
observers_after calls = fold observers_with [] calls

-- the accepted ones of any calls
abbrev pub accepted_observer_calls : List ObserverCall → List ObserverCall
accepted_observer_calls calls = accepted_of is_accepted_observer observers_with [] calls

-- the observers after any calls, of which a refused one changes nothing
abbrev pub observers_left : List ObserverCall → List ObserverState
observers_left calls = fold (left_by is_accepted_observer observers_with) [] calls

-- ---- what a loop calls

-- the order of an observer among those that a loop calls
abbrev pub observer_order : List ObserverState → ℕ → ℤ
observer_order observers o = option_map_or (λ x. x.order) (observer_at observers o) (pos 0)

-- whether the mask has the bit of the activity
abbrev pub has_activity : (activity mask : ℕ) → Bool
has_activity activity mask = not (bit_and mask activity == 0)

-- whether o is valid and its mask has the bit of the activity
abbrev pub is_matching : ℕ → List ObserverState → ℕ → Bool
is_matching activity observers o =
    option_map_or (λ x. x.valid && has_activity activity x.mask) (observer_at observers o) false

-- the valid observers of the activity among the numbers, by rising order and then by number
abbrev pub matching_observers : ℕ → List ObserverState → List ℕ → List ℕ
matching_observers activity observers numbers =
    sorted_by (observer_order observers) (filter (is_matching activity observers) numbers)
