-- Sources of run loops: when one is valid, and when it is signalled. After the Run Loops guide, where a source is
-- signalled until its callout begins, and is never called once it is invalidated. That both are sentences about the
-- calls so far, and that an invalidated source stays signalled, is this project's own.
use Rattle.std.specs.Prelude.{ℕ, ℤ, pos, Bool, true, false, ◌&&◌, not, List, [], Option, is_some, filter, fold, ◌==◌}
use Rattle.std.specs.Option.{option_map_or}
use Rattle.rl_base.specs.declared.sources.SourceState.{SourceState}
use Rattle.rl_base.specs.History.{holds_since, AllAccepted, accepted_of, left_by}
use Rattle.rl_base.specs.Numbered.{kept_at, kept_with, changed_at}
use Rattle.rl_base.specs.Ranks.{sorted_by}

-- ---- the sentences

-- what is done to a source: it is made, signalled, its callout begins, it is invalidated
pub data Call : Type 0 where
  made : (s : ℕ) (order : ℤ) → Call
  signalled : ℕ → Call
  called_out : ℕ → Call
  invalidated : ℕ → Call

-- a call makes this source
abbrev pub makes : ℕ → Call → Bool
makes s (made n order) = n == s
makes s _ = false

-- a call signals this source
abbrev pub signals : ℕ → Call → Bool
signals s (signalled n) = n == s
signals s _ = false

-- a call begins the callout of this source
abbrev pub calls_out : ℕ → Call → Bool
calls_out s (called_out n) = n == s
calls_out s _ = false

-- a call invalidates this source
abbrev pub invalidates : ℕ → Call → Bool
invalidates s (invalidated n) = n == s
invalidates s _ = false

-- after these calls s is valid: it was made, and not invalidated since
abbrev pub is_valid : List Call → ℕ → Bool
is_valid calls s = holds_since (makes s) (invalidates s) calls

-- after these calls s is signalled: it was signalled, and no callout of it has begun since
abbrev pub is_signalled : List Call → ℕ → Bool
is_signalled calls s = holds_since (signals s) (calls_out s) calls

-- ---- the bits of which the laws say that they are the sentences

-- the source of number s, if it was made
abbrev pub source_at : List SourceState → ℕ → Option SourceState
source_at sources s = kept_at (λ x. x.number) s sources

-- the bit that says that a source is valid; false if there is none of this number
abbrev pub valid_bit : List SourceState → ℕ → Bool
valid_bit sources s = option_map_or (λ x. x.valid) (source_at sources s) false

-- the bit that says that a source is signalled; false if there is none of this number
abbrev pub signal_bit : List SourceState → ℕ → Bool
signal_bit sources s = option_map_or (λ x. x.signalled) (source_at sources s) false

-- the sources after a call
abbrev pub sources_with : List SourceState → Call → List SourceState
sources_with sources (made s order) =
    kept_with (λ x. x.number) (record { number = s; order = order; valid = true; signalled = false }) sources
sources_with sources (signalled s) = changed_at (λ x. x.number) s (λ x. record x { signalled = true }) sources
sources_with sources (called_out s) = changed_at (λ x. x.number) s (λ x. record x { signalled = false }) sources
sources_with sources (invalidated s) = changed_at (λ x. x.number) s (λ x. record x { valid = false }) sources

-- whether a call is accepted: only what was not made is made; only a valid source is signalled or invalidated, and
-- only one that is signalled too is called out
abbrev pub is_accepted : List SourceState → Call → Bool
is_accepted sources (made s order) = not (is_some (source_at sources s))
is_accepted sources (signalled s) = valid_bit sources s
is_accepted sources (called_out s) = valid_bit sources s && signal_bit sources s
is_accepted sources (invalidated s) = valid_bit sources s

-- each of these calls is accepted after those before it, if nothing was made before
abbrev pub AreAccepted : List Call → Type 0
AreAccepted calls = AllAccepted is_accepted sources_with [] calls

-- the sources after these calls, if all are accepted
abbrev pub sources_after : List Call → List SourceState
sources_after calls = fold sources_with [] calls

-- the accepted ones of any calls
abbrev pub accepted_calls : List Call → List Call
accepted_calls calls = accepted_of is_accepted sources_with [] calls

-- the sources after any calls, of which a refused one changes nothing
abbrev pub sources_left : List Call → List SourceState
sources_left calls = fold (left_by is_accepted sources_with) [] calls

-- ---- what a loop calls

-- the order of a source among those that a loop calls
abbrev pub order_of : List SourceState → ℕ → ℤ
order_of sources s = option_map_or (λ x. x.order) (source_at sources s) (pos 0)

-- the valid signalled sources among the numbers, by rising order and then by number
abbrev pub ready_sources : List SourceState → List ℕ → List ℕ
ready_sources sources numbers =
    sorted_by (order_of sources) (filter (λ s. valid_bit sources s && signal_bit sources s) numbers)
