-- Answers to the goals of `places::every_place`.
use Rattle.std.proofs.Common.{◌≡◌, ℕ, ◌++◌, ◌<◌, ◌≤◌, ap, ◌∙◌, arith}
use Rattle.cf_model.specs.Deals.{every_place, held_at, loop_places}
use Rattle.cf_state.proofs.Listing.{flat-end, flat-step}
use Rattle.cf_deals.proofs.places.every_place.Goals as goal

pub loop-thread-preserved : goal.loop-thread-preserved
loop-thread-preserved c =
    let s = c.args.script.now in
    let at = λ (u : ℕ). held_at u c.args.item (loop_places s u c.args.item c.args.edges.now) in
    let t = c.loop-thread.thread in
    let before = c.loop-thread.every.items in
    let put : c.append.new.self.items ≡ before ++ at t =
    c.in_ok-append.ensures.items ∙ ap (λ rs. before ++ rs) c.in_ok-held.ensures in
    let lt : t < s.thread_count = omega arith in
    flat-step at t s.thread_count before c.append.new.self.items (every_place s c.args.item c.args.edges.now) lt put c.loop-thread.invariant

pub returns : goal.returns
returns c =
    let s = c.args.script.now in
    let at = λ (u : ℕ). held_at u c.args.item (loop_places s u c.args.item c.args.edges.now) in
    let past : s.thread_count ≤ c.loop-thread.thread = omega arith in
    flat-end at c.loop-thread.thread s.thread_count c.loop-thread.every.items (every_place s c.args.item c.args.edges.now) past c.loop-thread.invariant
