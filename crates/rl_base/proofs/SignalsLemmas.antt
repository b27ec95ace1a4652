-- That the bits of sources are the sentences about the calls so far.
use Rattle.std.proofs.Common.{◌≡◌, ℕ, List, [], refl}
use Rattle.rl_base.specs.declared.sources.SourceState.{SourceState}
use Rattle.rl_base.specs.Signals.{Call, made, signalled, called_out, invalidated, makes, signals, calls_out, invalidates, is_valid, is_signalled, valid_bit, signal_bit, sources_with, is_accepted, AreAccepted, sources_after, accepted_calls, sources_left}
use Rattle.rl_base.proofs.HistoryLemmas.{IsMoved, bit_after, bit_left}
use Rattle.rl_base.proofs.BitsLemmas.{bit_at-made, bit_at-unmade, bit_at-set, bit_at-taken, bit_at-kept, some_from_bit}

abbrev number_of : SourceState → ℕ
number_of x = x.number

module _ (s : ℕ) where
  valid_moved : IsMoved is_accepted sources_with (λ sources. valid_bit sources s) (makes s) (invalidates s)
  valid_moved xs (made n order) h = bit_at-made number_of (λ x. x.valid) s _ xs h refl
  valid_moved xs (signalled n) h = bit_at-kept number_of (λ x. x.valid) s n _ (λ x. refl) (λ x. refl) xs
  valid_moved xs (called_out n) h = bit_at-kept number_of (λ x. x.valid) s n _ (λ x. refl) (λ x. refl) xs
  valid_moved xs (invalidated n) h = bit_at-taken number_of (λ x. x.valid) s n _ (λ x. refl) (λ x. refl) xs

  signal_moved : IsMoved is_accepted sources_with (λ sources. signal_bit sources s) (signals s) (calls_out s)
  signal_moved xs (made n order) h = bit_at-unmade number_of (λ x. x.signalled) s _ xs h refl
  signal_moved xs (signalled n) h =
      bit_at-set number_of (λ x. x.signalled) s n _ (λ x. refl) (λ x. refl) xs (some_from_bit (λ x. x.valid) _ h)
  signal_moved xs (called_out n) h = bit_at-taken number_of (λ x. x.signalled) s n _ (λ x. refl) (λ x. refl) xs
  signal_moved xs (invalidated n) h = bit_at-kept number_of (λ x. x.signalled) s n _ (λ x. refl) (λ x. refl) xs

  -- after accepted calls
  pub valid_bit-after : (calls : List Call) → AreAccepted calls → valid_bit (sources_after calls) s ≡ is_valid calls s
  valid_bit-after =
      bit_after is_accepted sources_with (λ xs. valid_bit xs s) (makes s) (invalidates s) valid_moved [] refl

  pub signal_bit-after : (calls : List Call) → AreAccepted calls →
      signal_bit (sources_after calls) s ≡ is_signalled calls s
  signal_bit-after =
      bit_after is_accepted sources_with (λ xs. signal_bit xs s) (signals s) (calls_out s) signal_moved [] refl

  -- after calls that may be refused
  pub valid_bit-left : (calls : List Call) →
      valid_bit (sources_left calls) s ≡ is_valid (accepted_calls calls) s
  valid_bit-left =
      bit_left is_accepted sources_with (λ xs. valid_bit xs s) (makes s) (invalidates s) valid_moved [] refl

  pub signal_bit-left : (calls : List Call) →
      signal_bit (sources_left calls) s ≡ is_signalled (accepted_calls calls) s
  signal_bit-left =
      bit_left is_accepted sources_with (λ xs. signal_bit xs s) (signals s) (calls_out s) signal_moved [] refl
