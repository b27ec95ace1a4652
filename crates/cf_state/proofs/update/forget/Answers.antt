-- Answers to the goals of `update::forget`.
use Rattle.std.proofs.Common.{◌≡◌, ◌<◌, length, ◌∙◌, arith}
use Rattle.std.specs.Prelude.{Option, None, if◌then◌else◌}
use Rattle.rl_base.specs.declared.registrations.Registration.{Registration}
use Rattle.rl_base.specs.Receivers.{forgets, is_there_and}
use Rattle.cf_state.proofs.Listing.{set-each, walk-end, walk-long}
use Rattle.cf_state.proofs.update.forget.Goals as goal

pub loop-place-preserved : goal.loop-place-preserved
loop-place-preserved c =
    let w = c.loop-place.invariant in
    let f = λ (r : Option Registration). if is_there_and (forgets c.args.observer c.args.name.now c.args.filter.now) r then None else r in
    let all = c.args.registrations.now.items in
    let now = c.loop-place.registrations.items in
    let long : length now ≡ length all = walk-long f c.loop-place.place all now w.walked in
    let lt : c.loop-place.place < length all = omega arith in
    record {
      walked = set-each f c.loop-place.place all now _ _ w.walked lt c.index_mut.ensures.value c.forget_one.ensures;
      within = omega arith;
    }

pub returns : goal.returns
returns c =
    let w = c.loop-place.invariant in
    let f = λ (r : Option Registration). if is_there_and (forgets c.args.observer c.args.name.now c.args.filter.now) r then None else r in
    let all = c.args.registrations.now.items in
    let now = c.loop-place.registrations.items in
    let long : length now ≡ length all = walk-long f c.loop-place.place all now w.walked in
    let past : c.loop-place.place ≡ length all = omega arith in
    w.walked ∙ walk-end f c.loop-place.place all past
