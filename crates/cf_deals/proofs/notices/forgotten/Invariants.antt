-- The loop invariants of `notices::forgotten`.
use Rattle.std.proofs.Common.{◌≡◌, ◌+◌, ◌-◌, ◌≤◌, length, None}
use Rattle.std.specs.Prelude.{filter, slice_index_or}
use Rattle.std.specs.List.{range_with_len}
use Rattle.rl_base.specs.Receivers.{forgets, is_there_and, numbers_of}
use Rattle.cf_deals.proofs.notices.forgotten.Given as goal

-- those that were passed over are counted
abbrev pub invariant-loop-place : goal.invariant-loop-place
invariant-loop-place l = record {
  within : l.place ≤ length l.parts.registrations;
  few : l.found ≤ l.place;
  counted : l.found + length (filter (λ k. is_there_and (forgets l.observer l.name l.filter) (slice_index_or l.parts.registrations k None)) (range_with_len l.place (length l.parts.registrations - l.place)))
      ≡ length (numbers_of (forgets l.observer l.name l.filter) l.parts.registrations);
}

abbrev pub decreases-loop-place : goal.decreases-loop-place
decreases-loop-place l = length l.parts.registrations - l.place
