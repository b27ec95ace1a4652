-- Answers to the goals of `notices::live_receivers`.
use Rattle.std.proofs.Common.{◌≡◌, ℕ, ◌<◌, ◌≤◌, length, sym, ap, ◌∙◌, arith}
use Rattle.std.specs.Prelude.{slice_index_or, None}
use Rattle.rl_base.specs.Receivers.{is_there_and, matches}
use Rattle.cf_model.specs.Deals.{live_receivers}
use Rattle.cf_model.specs.Known.{may_receive}
use Rattle.cf_model.specs.State.{Parts}
use Rattle.cf_state.proofs.Listing.{filters-end, filters-step}
use Rattle.cf_deals.proofs.notices.live_receivers.Goals as goal

pub loop-place-preserved : goal.loop-place-preserved
loop-place-preserved c =
    let w = c.loop-place.invariant in
    let all : length c.parts.inside.registrations.items ≡ length c.args.parts.now.registrations = ap (λ (p : Parts). length p.registrations) c.parts.view_is in
    let lt : c.loop-place.place < length c.args.parts.now.registrations = omega arith in
    record {
      few = w.few;
      listed = filters-step _ _ _ _ _ _ _ _ lt (sym c.is_receiver.ensures) c.in_ok-put_if.ensures w.listed;
    }

pub returns : goal.returns
returns c =
    let there = c.args.parts.now.registrations in
    let all : length c.parts.inside.registrations.items ≡ length c.args.parts.now.registrations = ap (λ (p : Parts). length p.registrations) c.parts.view_is in
    let past : length there ≤ c.loop-place.place = omega arith in
    filters-end (λ (k : ℕ). is_there_and (matches c.args.name c.args.object.now) (slice_index_or there k None)) (λ (k : ℕ). is_there_and (may_receive c.args.parts.now) (slice_index_or there k None)) c.loop-place.place (length there) c.loop-place.receivers.items (live_receivers c.args.parts.now c.args.name c.args.object.now) past c.loop-place.invariant.listed
