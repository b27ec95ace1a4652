-- Answers to the goals of `running::still`.
use Rattle.std.proofs.Common.{◌∙◌, ap, refl}
use Rattle.std.specs.Option.{option_and_then}
use Rattle.cf_next.specs.Stands.{Stand, Turn}
use Rattle.cf_next.specs.Standing.{innermost_run}
use Rattle.cf_world.specs.Begun.{still_answer}
use Rattle.cf_world.specs.Grounds.{state_of}
use Rattle.cf_world.proofs.Moving.{lent_here, within_frames}
use Rattle.cf_world.proofs.Rounds.{stand_told, still_passes, still_room}
use Rattle.cf_world.proofs.running.still.Goals as goal

pub pass-requires-clause-passes : goal.pass-requires-clause-passes
pass-requires-clause-passes c =
    let g = c.args.ground.now in
    let r = c.args.reserved.now in
    let t = r.thread in
    let fs = c.args.frames.now.items in
    let lent = lent_here fs t c.t.inside.0 c.index.result.now _ c.index.ensures c.t.view_is (within_frames g.script (state_of g).stands fs t c.requires.frames c.requires.reserved.found.acts.thread) in
    still_passes g r c.answer_of_still-answer.result r.found c.requires.still c.requires.reserved.found.kept
    (c.answer_of_still-answer.ensures ∙ ap (λ (s : Stand). still_answer r.found (option_and_then (λ (x : Turn). x.result) (innermost_run s.frames))) (stand_told g fs t c.index.result.now c.requires.frames lent))

pub pass-requires-clause-room : goal.pass-requires-clause-room
pass-requires-clause-room c = still_room c.args.ground.now c.args.frames.now.items c.args.reserved.now c.requires.reserved c.args.reserved.now.found refl c.requires.still
