-- Answers to the goals of `parts::tick_all`.
use Rattle.std.proofs.Common.{◌≡◌, ◌<◌, length, ◌∙◌, arith}
use Rattle.cf_model.specs.Journals.{tick_flags}
use Rattle.cf_state.proofs.Listing.{set-each, walk-end, walk-long}
use Rattle.cf_state.proofs.parts.tick_all.Goals as goal

pub loop-thread-preserved : goal.loop-thread-preserved
loop-thread-preserved c =
    let w = c.loop-thread.invariant in
    let f = tick_flags c.args.time in
    let all = c.args.flags.now.items in
    let now = c.loop-thread.flags.items in
    let long : length now ≡ length all = walk-long f c.loop-thread.thread all now w.walked in
    let lt : c.loop-thread.thread < length all = omega arith in
    record {
      walked = set-each f c.loop-thread.thread all now _ _ w.walked lt c.index_mut.ensures.value c.tick.ensures;
      within = omega arith;
    }

pub returns : goal.returns
returns c =
    let w = c.loop-thread.invariant in
    let f = tick_flags c.args.time in
    let all = c.args.flags.now.items in
    let now = c.loop-thread.flags.items in
    let long : length now ≡ length all = walk-long f c.loop-thread.thread all now w.walked in
    let past : c.loop-thread.thread ≡ length all = omega arith in
    w.walked ∙ walk-end f c.loop-thread.thread all past
