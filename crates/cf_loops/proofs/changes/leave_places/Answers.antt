use Rattle.cf_loops.proofs.Places.{leaving_start, leaving_fewer, leaving_more, leaving_end}
use Rattle.cf_loops.proofs.changes.leave_places.Goals as goal

pub loop-place-init : goal.loop-place-init
loop-place-init c = leaving_start c.args.item c.args.modes.now

pub loop-place-smaller : goal.loop-place-smaller
loop-place-smaller c = leaving_fewer c.args.item c.args.modes.now c.loop-place.modes c.leave.new.modes c.in-Some.place c.in-Some.ensures c.leave.ensures.held

pub loop-place-preserved : goal.loop-place-preserved
loop-place-preserved c = leaving_more c.args.item c.args.modes.now c.loop-place.modes c.leave.new.modes c.in-Some.place c.in-Some.ensures c.leave.ensures.held c.loop-place.invariant c.leave.ensures.common_modes

pub returns : goal.returns
returns c = leaving_end c.args.item c.args.modes.now c.loop-place.modes c.loop-place.invariant c.in_default.ensures
