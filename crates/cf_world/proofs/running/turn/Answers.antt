-- Answers to the goals of `running::turn`.
use Rattle.std.proofs.Common.{◌∙◌, List, length, refl, sym, ap, subst, arith}
use Rattle.rl_turn.specs.declared.phases.Phase.{Phase}
use Rattle.rl_turn.specs.declared.phases.Phase.TheVariants as phases
use Rattle.cf_ids.specs.declared.answer.Answer.TheVariants as answers
use Rattle.cf_next.specs.Stands.{Stand}
use Rattle.cf_next.specs.Standing.{Standing, innermost_run}
use Rattle.cf_model.specs.Steps.{frames_at}
use Rattle.cf_world.specs.Grounds.{state_of}
use Rattle.cf_world.specs.Begun.{FitsItems, sources_of_run, standing_at}
use Rattle.cf_world.specs.declared.found.Found.TheVariants as kept
use Rattle.cf_world.proofs.Collecting.{few_collected, fits_more}
use Rattle.cf_world.proofs.Going.{kept_as}
use Rattle.cf_world.proofs.Rounds.{enters_room, mode_fits, phase_passes, plain_phase, sources_room, stand_told}
use Rattle.cf_world.proofs.running.turn.Goals as goal

pub collect-requires-clause-room : goal.collect-requires-clause-room
collect-requires-clause-room c =
    let g = c.args.ground.now in
    let r = c.args.reserved.now in
    let t = r.thread in
    let e = c.requires.enters ∙ ap (λ (p : Phase). kept.Enters p) c.in-Sources.is in
    let lists = c.requires.lists in
    let run = ap (λ (s : Stand). innermost_run s.frames) (stand_told g c.args.frames.now.items t _ c.requires.frames (ap (λ (fs : List Standing). standing_at fs t) c.as_slice.ensures.value)) in
    subst (FitsItems (state_of g) t _) (sym run) (fits_more (state_of g) t lists.more _ _ lists.gained_fits (mode_fits g r lists.more e lists.most))

pub collect-requires-clause-list_room : goal.collect-requires-clause-list_room
collect-requires-clause-list_room c =
    let g = c.args.ground.now in
    let r = c.args.reserved.now in
    let t = r.thread in
    let e = c.requires.enters ∙ ap (λ (p : Phase). kept.Enters p) c.in-Sources.is in
    let lists = c.requires.lists in
    let run = ap (λ (s : Stand). innermost_run s.frames) (stand_told g c.args.frames.now.items t _ c.requires.frames (ap (λ (fs : List Standing). standing_at fs t) c.as_slice.ensures.value)) in
    subst (FitsItems (state_of g) t _) (sym run) (fits_more (state_of g) t lists.more _ _ lists.list_fits (mode_fits g r lists.more e lists.most))

pub pass-requires-clause-passes : goal.pass-requires-clause-passes
pass-requires-clause-passes c =
    let g = c.args.ground.now in
    let r = c.args.reserved.now in
    let t = r.thread in
    let e = c.requires.enters ∙ ap (λ (p : Phase). kept.Enters p) c.in-Sources.is in
    let run = ap (λ (s : Stand). innermost_run s.frames) (stand_told g c.args.frames.now.items t _ c.requires.frames (ap (λ (fs : List Standing). standing_at fs t) c.as_slice.ensures.value)) in
    phase_passes g r answers.Ok phases.Sources tt (kept_as g r (kept.Enters phases.Sources) c.requires.reserved.found e) c.as_slice-in-Sources.result.now
    (λ x q. (refl, c.as_slice-in-Sources.ensures.value ∙ c.collect.ensures.list ∙ ap (sources_of_run (state_of g) t) (run ∙ q)))

pub pass-requires-clause-room : goal.pass-requires-clause-room
pass-requires-clause-room c =
    let g = c.args.ground.now in
    let r = c.args.reserved.now in
    let t = r.thread in
    let fs = c.args.frames.now.items in
    let e = c.requires.enters ∙ ap (λ (p : Phase). kept.Enters p) c.in-Sources.is in
    let lists = c.requires.lists in
    let run = ap (λ (s : Stand). innermost_run s.frames) (stand_told g fs t _ c.requires.frames (ap (λ (xs : List Standing). standing_at xs t) c.as_slice.ensures.value)) in
    let told = c.as_slice-in-Sources.ensures.value ∙ c.collect.ensures.list ∙ ap (sources_of_run (state_of g) t) run in
    sources_room g fs r c.requires.reserved _ e lists.more lists.room
    (omega (arith, ap length told, few_collected (state_of g) t lists.more (innermost_run (frames_at t (state_of g))) (mode_fits g r lists.more e lists.most)))

pub pass-requires-in_default-clause-passes : goal.pass-requires-in_default-clause-passes
pass-requires-in_default-clause-passes c =
    plain_phase c.args.ground.now c.args.reserved.now c.args.phase c.in_default.not-Sources c.in_default.not-Sleep c.in_default.not-Test c.requires.enters c.requires.reserved.found

pub pass-requires-in_default-clause-room : goal.pass-requires-in_default-clause-room
pass-requires-in_default-clause-room c = enters_room c.args.ground.now c.args.frames.now.items c.args.reserved.now c.requires.reserved c.args.phase c.requires.enters
