-- That the bit of observers is the sentence about the calls so far.
use Rattle.std.proofs.Common.{◌≡◌, ℕ, List, [], refl}
use Rattle.rl_base.specs.declared.observers.ObserverState.{ObserverState}
use Rattle.rl_base.specs.Activities.{ObserverCall, observer_made, observer_invalidated, makes_observer, invalidates_observer, is_valid_observer, observer_bit, observers_with, is_accepted_observer, AreAcceptedObservers, observers_after, accepted_observer_calls, observers_left}
use Rattle.rl_base.proofs.HistoryLemmas.{IsMoved, bit_after, bit_left}
use Rattle.rl_base.proofs.BitsLemmas.{bit_at-made, bit_at-taken}

abbrev number_of : ObserverState → ℕ
number_of x = x.number

module _ (o : ℕ) where
  valid_moved :
      IsMoved
      is_accepted_observer
      observers_with
      (λ xs. observer_bit xs o)
      (makes_observer o)
      (invalidates_observer o)
  valid_moved xs (observer_made n mask repeats order) h = bit_at-made number_of (λ x. x.valid) o _ xs h refl
  valid_moved xs (observer_invalidated n) h = bit_at-taken number_of (λ x. x.valid) o n _ (λ x. refl) (λ x. refl) xs

  -- after accepted calls
  pub observer_bit-after : (calls : List ObserverCall) → AreAcceptedObservers calls →
      observer_bit (observers_after calls) o ≡ is_valid_observer calls o
  observer_bit-after =
      bit_after
      is_accepted_observer
      observers_with
      (λ xs. observer_bit xs o)
      (makes_observer o)
      (invalidates_observer o)
      valid_moved
      []
      refl

  -- after calls that may be refused
  pub observer_bit-left : (calls : List ObserverCall) →
      observer_bit (observers_left calls) o ≡ is_valid_observer (accepted_observer_calls calls) o
  observer_bit-left =
      bit_left
      is_accepted_observer
      observers_with
      (λ xs. observer_bit xs o)
      (makes_observer o)
      (invalidates_observer o)
      valid_moved
      []
      refl
