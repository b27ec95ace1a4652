-- Answers to the goals of `places::modes_of`.
use Rattle.std.proofs.Common.{◌≡◌, length, ap, ◌∙◌, arith}
use Rattle.std.specs.List.{range_with_len}
use Rattle.cf_state.proofs.Listing.{range-last}
use Rattle.cf_deals.proofs.places.modes_of.Goals as goal

pub loop-next-preserved : goal.loop-next-preserved
loop-next-preserved c = record {
  listed = c.in_ok-push.ensures.items ∙ range-last _ _ c.loop-next.invariant.listed;
  within = omega arith;
}

pub returns : goal.returns
returns c =
    let all : c.loop-next.next ≡ length c.args.script.now.modes = omega arith in
    c.loop-next.invariant.listed ∙ ap (range_with_len 0) all
