-- Answers to the goals of `applying::end`.
use Rattle.std.proofs.Common.{refl}
use Rattle.cf_ids.specs.declared.answer.Answer.TheVariants as answers
use Rattle.cf_next.specs.declared.step.Step.TheVariants as steps
use Rattle.cf_world.specs.declared.found.Found.TheVariants as kept
use Rattle.cf_world.proofs.Going.{end_gone, has_room, kept_as, step_as}
use Rattle.cf_world.proofs.applying.end.Goals as goal

pub go_on-requires-clause-step : goal.go_on-requires-clause-step
go_on-requires-clause-step c =
    step_as c.args.ground.now c.args.reserved.now kept.Ends steps.Ends c.requires.ends refl (kept_as c.args.ground.now c.args.reserved.now kept.Ends c.requires.reserved.found c.requires.ends)

pub go_on-requires-clause-room : goal.go_on-requires-clause-room
go_on-requires-clause-room c =
    has_room c.args.ground.now c.args.frames.now.items c.args.reserved.now steps.Ends c.requires.reserved (kept_as c.args.ground.now c.args.reserved.now kept.Ends c.requires.reserved.found c.requires.ends) refl

pub enter_end-requires-clause-end : goal.enter_end-requires-clause-end
enter_end-requires-clause-end c = (kept_as c.args.ground.now c.args.reserved.now kept.Ends c.requires.reserved.found c.requires.ends).demand

pub returns-clause-gone : goal.returns-clause-gone
returns-clause-gone c =
    end_gone c.args.ground.now c.enter_end.new.self c.go_on.new.frames.items c.args.reserved.now c.requires.reserved.found c.enter_end.ensures.entered answers.Ok c.go_on.ensures c.requires.ends refl
