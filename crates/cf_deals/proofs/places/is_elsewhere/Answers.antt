-- Answers to the goals of `places::is_elsewhere`.
use Rattle.std.proofs.Common.{◌≡◌, ℕ, ◌<◌, ◌≤◌, length, not, sym, ◌∙◌, arith}
use Rattle.std.specs.Prelude.{◌==◌, ◌&&◌}
use Rattle.cf_model.specs.Deals.{is_elsewhere, loop_places}
use Rattle.cf_state.proofs.Listing.{any-none, any-step}
use Rattle.cf_deals.proofs.places.is_elsewhere.Goals as goal

pub returns : goal.returns
returns c =
    let s = c.args.script.now in
    let test = λ (u : ℕ). not (u == c.args.thread) && not (length (loop_places s u c.args.item c.args.edges.now) == 0) in
    let past : s.thread_count ≤ c.loop-other.other = omega arith in
    sym (any-none test c.loop-other.other s.thread_count (is_elsewhere s c.args.thread c.args.item c.args.edges.now) past c.loop-other.invariant)

pub loop-other-preserved : goal.loop-other-preserved
loop-other-preserved c =
    let s = c.args.script.now in
    let test = λ (u : ℕ). not (u == c.args.thread) && not (length (loop_places s u c.args.item c.args.edges.now) == 0) in
    let lt : c.loop-other.other < s.thread_count = omega arith in
    any-step test c.loop-other.other s.thread_count (is_elsewhere s c.args.thread c.args.item c.args.edges.now) lt (sym c.in_ok-holds_elsewhere.ensures ∙ c.if-branch.false) c.loop-other.invariant
