-- Answers to the goals of `notices::forgotten`.
use Rattle.std.proofs.Common.{◌≡◌, ℕ, ◌<◌, ◌≤◌, length, sym, ap, ◌∙◌, arith}
use Rattle.std.specs.Prelude.{slice_index_or, None}
use Rattle.rl_base.specs.Receivers.{forgets, is_there_and, numbers_of}
use Rattle.cf_model.specs.State.{Parts}
use Rattle.cf_state.proofs.Listing.{count-end, count-pass, count-put}
use Rattle.cf_deals.proofs.notices.forgotten.Goals as goal
use Rattle.cf_deals.proofs.notices.forgotten.Goals.{then-is_gone, else-is_gone}

pub loop-place-preserved : goal.loop-place-preserved
loop-place-preserved c =
    let w = c.loop-place.invariant in
    let all : length c.parts.inside.registrations.items ≡ length c.args.parts.now.registrations = ap (λ (p : Parts). length p.registrations) c.parts.view_is in
    let lt : c.loop-place.place < length c.args.parts.now.registrations = omega arith in
    elim c.if-is_gone.branch [
      | then-is_gone v ↦ record { within = omega arith; few = omega arith; counted = rw v.found-is (count-put _ _ _ _ _ lt (sym c.is_gone.ensures ∙ v.if-is_gone.true) w.counted) }
      | else-is_gone v ↦ record { within = omega arith; few = omega arith; counted = rw v.found-is (count-pass _ _ _ _ _ lt (sym c.is_gone.ensures ∙ v.if-is_gone.false) w.counted) }
    ]

pub returns-clause-count : goal.returns-clause-count
returns-clause-count c =
    let gone = forgets c.args.observer c.args.name.now c.args.filter.now in
    let there = c.args.parts.now.registrations in
    let all : length c.parts.inside.registrations.items ≡ length c.args.parts.now.registrations = ap (λ (p : Parts). length p.registrations) c.parts.view_is in
    let past : length there ≤ c.loop-place.place = omega arith in
    count-end (λ (k : ℕ). is_there_and gone (slice_index_or there k None)) c.loop-place.place (length there) c.loop-place.found (length (numbers_of gone there)) past c.loop-place.invariant.counted

pub returns-clause-few : goal.returns-clause-few
returns-clause-few c =
    let all : length c.parts.inside.registrations.items ≡ length c.args.parts.now.registrations = ap (λ (p : Parts). length p.registrations) c.parts.view_is in
    omega (arith, c.has_few.ensures.registrations)
