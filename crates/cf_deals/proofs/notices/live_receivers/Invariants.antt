-- The loop invariants of `notices::live_receivers`.
use Rattle.std.proofs.Common.{◌≡◌, ◌<◌, ◌-◌, ◌++◌, length, None}
use Rattle.std.specs.Prelude.{filter, slice_index_or}
use Rattle.std.specs.List.{range_with_len}
use Rattle.rl_base.specs.Receivers.{is_there_and, matches}
use Rattle.cf_model.specs.Deals.{live_receivers}
use Rattle.cf_model.specs.Known.{may_receive}
use Rattle.cf_deals.proofs.notices.live_receivers.Given as goal

-- those that were passed over are listed
abbrev pub invariant-loop-place : goal.invariant-loop-place
invariant-loop-place l = record {
  few : length l.parts.registrations < 4294967295;
  listed : l.receivers.items ++ filter (λ k. is_there_and (may_receive l.parts) (slice_index_or l.parts.registrations k None))
      (filter (λ k. is_there_and (matches l.name l.object) (slice_index_or l.parts.registrations k None)) (range_with_len l.place (length l.parts.registrations - l.place)))
      ≡ live_receivers l.parts l.name l.object;
}

abbrev pub decreases-loop-place : goal.decreases-loop-place
decreases-loop-place l = length l.parts.registrations - l.place
