-- Answers to the goals of `running::test`.
use Rattle.rl_turn.specs.declared.phases.Phase.TheVariants as phases
use Rattle.cf_world.specs.Grounds.{state_of}
use Rattle.cf_world.specs.declared.found.Found.TheVariants as kept
use Rattle.cf_world.proofs.Going.{kept_as}
use Rattle.cf_world.proofs.Moving.{lent_here, within_frames}
use Rattle.cf_world.proofs.Rounds.{enters_room, phase_passes, tested}
use Rattle.cf_world.proofs.running.test.Goals as goal

pub pass-requires-clause-passes : goal.pass-requires-clause-passes
pass-requires-clause-passes c =
    let g = c.args.ground.now in
    let r = c.args.reserved.now in
    let t = r.thread in
    let fs = c.args.frames.now.items in
    let lent = lent_here fs t c.t.inside.0 c.index.result.now _ c.index.ensures c.t.view_is (within_frames g.script (state_of g).stands fs t c.requires.frames c.requires.reserved.found.acts.thread) in
    phase_passes g r c.answer_of_test-answer.result phases.Test tt (kept_as g r (kept.Enters phases.Test) c.requires.reserved.found c.requires.tests) _
    (tested g fs t c.index.result.now c.answer_of_test-answer.result c.requires.frames c.requires.reserved.found.acts.thread lent c.answer_of_test-answer.ensures)

pub pass-requires-clause-room : goal.pass-requires-clause-room
pass-requires-clause-room c = enters_room c.args.ground.now c.args.frames.now.items c.args.reserved.now c.requires.reserved phases.Test c.requires.tests
