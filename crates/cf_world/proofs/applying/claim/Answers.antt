-- Answers to the goals of `applying::claim`.
use Rattle.std.proofs.Common.{refl}
use Rattle.cf_next.specs.declared.step.Step.TheVariants as steps
use Rattle.cf_world.specs.declared.found.Found.TheVariants as kept
use Rattle.cf_world.proofs.Going.{as_claim, claim_gone, has_room, kept_as, step_as}
use Rattle.cf_world.proofs.applying.claim.Goals as goal

pub go_on-requires-clause-step : goal.go_on-requires-clause-step
go_on-requires-clause-step c =
    let r = c.args.reserved.now in
    let f = as_claim r.found c.args.place c.requires.claims in
    step_as c.args.ground.now r (kept.Claims c.args.place f.0) (steps.Claims c.args.place f.0) f.1 refl (kept_as c.args.ground.now r (kept.Claims c.args.place f.0) c.requires.reserved.found f.1)

pub go_on-requires-clause-room : goal.go_on-requires-clause-room
go_on-requires-clause-room c =
    let r = c.args.reserved.now in
    let f = as_claim r.found c.args.place c.requires.claims in
    has_room c.args.ground.now c.args.frames.now.items r (steps.Claims c.args.place f.0) c.requires.reserved (kept_as c.args.ground.now r (kept.Claims c.args.place f.0) c.requires.reserved.found f.1) refl

pub enter_claim-requires-clause-claim : goal.enter_claim-requires-clause-claim
enter_claim-requires-clause-claim c =
    let r = c.args.reserved.now in
    let f = as_claim r.found c.args.place c.requires.claims in
    record { var = f.0; demands = (kept_as c.args.ground.now r (kept.Claims c.args.place f.0) c.requires.reserved.found f.1).demand }

pub returns-clause-gone : goal.returns-clause-gone
returns-clause-gone c =
    let r = c.args.reserved.now in
    let f = as_claim r.found c.args.place c.requires.claims in
    claim_gone c.args.ground.now c.enter_claim.new.self c.go_on.new.frames.items r c.requires.reserved.found c.enter_claim.ensures.entered c.answer_for-answer.result c.go_on.ensures
    c.args.place f.0 c.parcel.result f.1 c.parcel.ensures c.answer_for-answer.ensures
