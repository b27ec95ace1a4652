-- Answers to the goals of `applying::give_up`.
use Rattle.std.proofs.Common.{refl}
use Rattle.cf_next.specs.declared.step.Step.TheVariants as steps
use Rattle.cf_world.specs.declared.found.Found.TheVariants as kept
use Rattle.cf_world.proofs.Going.{drop_cut, drop_gone, drop_made, has_room, kept_as, step_as}
use Rattle.cf_world.proofs.applying.give_up.Goals as goal

pub answer_of_cut-answer-requires : goal.answer_of_cut-answer-requires
answer_of_cut-answer-requires c =
    let r = c.args.reserved.now in
    let d = c.in-Drops in
    drop_made c.args.ground.now r c.requires.reserved.found d.body d.place d.object d.left (kept_as c.args.ground.now r (kept.Drops d.body d.place d.object d.left) c.requires.reserved.found d.is)

pub go_on-requires-clause-step : goal.go_on-requires-clause-step
go_on-requires-clause-step c =
    let g = c.args.ground.now in
    let r = c.args.reserved.now in
    let d = c.in-Drops in
    step_as g r (kept.Drops d.body d.place d.object d.left) (steps.Drops d.body d.place d.object d.left) d.is refl (kept_as g r (kept.Drops d.body d.place d.object d.left) c.requires.reserved.found d.is)

pub go_on-requires-clause-room : goal.go_on-requires-clause-room
go_on-requires-clause-room c =
    let g = c.args.ground.now in
    let r = c.args.reserved.now in
    let d = c.in-Drops in
    has_room g c.args.frames.now.items r (steps.Drops d.body d.place d.object d.left) c.requires.reserved (kept_as g r (kept.Drops d.body d.place d.object d.left) c.requires.reserved.found d.is) refl

pub enter_drop-requires-clause-drop : goal.enter_drop-requires-clause-drop
enter_drop-requires-clause-drop c =
    let r = c.args.reserved.now in
    let d = c.in-Drops in
    record { place = d.place; demands = (kept_as c.args.ground.now r (kept.Drops d.body d.place d.object d.left) c.requires.reserved.found d.is).demand }

pub enter_drop-requires-clause-ended : goal.enter_drop-requires-clause-ended
enter_drop-requires-clause-ended c =
    let d = c.in-Drops in
    c.requires.ended d.object (drop_cut c.args.ground.now c.args.reserved.now c.requires.reserved.found d.body d.place d.object d.left d.is)

pub returns : goal.returns
returns c =
    let g = c.args.ground.now in
    let r = c.args.reserved.now in
    let d = c.in-Drops in
    record {
      gone = drop_gone g c.enter_drop.new.self c.go_on.new.frames.items r c.requires.reserved.found c.enter_drop.ensures.entered c.answer_of_cut-answer.result c.go_on.ensures
          d.body d.place d.object d.left c.args.ended d.is (c.requires.ended d.object (drop_cut g r c.requires.reserved.found d.body d.place d.object d.left d.is)) c.answer_of_cut-answer.ensures;
    }
