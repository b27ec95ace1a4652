-- Answers to the goals of `applying::pay`.
use Rattle.std.proofs.Common.{refl, inr}
use Rattle.cf_next.specs.declared.step.Step.TheVariants as steps
use Rattle.cf_world.specs.declared.found.Found.TheVariants as kept
use Rattle.cf_world.proofs.Going.{as_owed, has_room, kept_as, owed_gone, owed_made, step_as}
use Rattle.cf_world.proofs.applying.pay.Goals as goal

pub answer_of_cut-answer-requires : goal.answer_of_cut-answer-requires
answer_of_cut-answer-requires c =
    let r = c.args.reserved.now in
    let f = as_owed r.found c.args.object c.requires.owes in
    owed_made c.args.ground.now r c.requires.reserved.found c.args.object f.0 (kept_as c.args.ground.now r (kept.Owes c.args.object f.0) c.requires.reserved.found f.1)

pub go_on-requires-clause-step : goal.go_on-requires-clause-step
go_on-requires-clause-step c =
    let r = c.args.reserved.now in
    let f = as_owed r.found c.args.object c.requires.owes in
    step_as c.args.ground.now r (kept.Owes c.args.object f.0) (steps.Owes c.args.object f.0) f.1 refl (kept_as c.args.ground.now r (kept.Owes c.args.object f.0) c.requires.reserved.found f.1)

pub go_on-requires-clause-room : goal.go_on-requires-clause-room
go_on-requires-clause-room c =
    let r = c.args.reserved.now in
    let f = as_owed r.found c.args.object c.requires.owes in
    has_room c.args.ground.now c.args.frames.now.items r (steps.Owes c.args.object f.0) c.requires.reserved (kept_as c.args.ground.now r (kept.Owes c.args.object f.0) c.requires.reserved.found f.1) refl

pub enter_cut-requires-clause-cut : goal.enter_cut-requires-clause-cut
enter_cut-requires-clause-cut c =
    let r = c.args.reserved.now in
    let f = as_owed r.found c.args.object c.requires.owes in
    inr (kept_as c.args.ground.now r (kept.Owes c.args.object f.0) c.requires.reserved.found f.1).demand

pub returns : goal.returns
returns c =
    let r = c.args.reserved.now in
    let f = as_owed r.found c.args.object c.requires.owes in
    record {
      gone = owed_gone c.args.ground.now c.enter_cut.new.self c.go_on.new.frames.items r c.requires.reserved.found c.enter_cut.ensures.entered c.answer_of_cut-answer.result c.go_on.ensures
          c.args.object f.0 c.args.ended f.1 c.requires.ended c.answer_of_cut-answer.ensures;
    }
