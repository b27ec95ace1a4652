-- Answers to the goals of `running::sleep`.
use Rattle.std.proofs.Common.{◌∙◌, ap, refl, sym}
use Rattle.std.specs.Option.{option_and_then}
use Rattle.rl_turn.specs.declared.phases.Phase.TheVariants as phases
use Rattle.cf_next.specs.Stands.{Stand, Turn}
use Rattle.cf_next.specs.Standing.{innermost_run}
use Rattle.cf_next.specs.Demands.{enters}
use Rattle.cf_world.specs.Grounds.{state_of}
use Rattle.cf_world.specs.declared.found.Found.TheVariants as kept
use Rattle.cf_world.proofs.Going.{kept_as}
use Rattle.cf_world.proofs.Moving.{lent_here, within_frames}
use Rattle.cf_world.proofs.Rounds.{enters_room, innermost, sleep_gone, stand_told}
use Rattle.cf_world.proofs.running.sleep.Goals as goal

pub enter_sleep-requires-clause-sleeps : goal.enter_sleep-requires-clause-sleeps
enter_sleep-requires-clause-sleeps c =
    let g = c.args.ground.now in
    let r = c.args.reserved.now in
    let t = r.thread in
    let fs = c.args.frames.now.items in
    let lent = lent_here fs t c.t.inside.0 c.index.result.now _ c.index.ensures c.t.view_is (within_frames g.script (state_of g).stands fs t c.requires.frames c.requires.reserved.found.acts.thread) in
    let h = kept_as g r (kept.Enters phases.Sleep) c.requires.reserved.found c.requires.sleeps in
    let run = innermost g.script t (state_of g) (enters phases.Sleep) tt h.demand in
    record {
      run = run.run;
      demands = h.demand;
      top = run.top;
      deadline_is = sym (c.deadline-deadline.ensures ∙ ap (λ (s : Stand). option_and_then (λ (x : Turn). x.deadline) (innermost_run s.frames)) (stand_told g fs t c.index.result.now c.requires.frames lent) ∙ ap (option_and_then (λ (x : Turn). x.deadline)) run.innermost);
    }

pub go_on-requires-clause-room : goal.go_on-requires-clause-room
go_on-requires-clause-room c = enters_room c.args.ground.now c.args.frames.now.items c.args.reserved.now c.requires.reserved phases.Sleep c.requires.sleeps

pub returns-clause-gone : goal.returns-clause-gone
returns-clause-gone c =
    sleep_gone c.args.ground.now c.enter_sleep.new.self c.go_on.new.frames.items c.args.reserved.now c.requires.reserved.found c.enter_sleep.ensures.entered
    _ _ c.go_on.ensures c.requires.sleeps refl
