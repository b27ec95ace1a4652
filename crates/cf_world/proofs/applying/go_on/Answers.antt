-- Answers to the goals of `applying::go_on`.
use Rattle.std.proofs.Common.{◌≡◌, ◌∙◌, ℕ, length, set, Option, Some, sym, subst, ap}
use Rattle.std.specs.Prelude.{IfSome}
use Rattle.cf_syntax.specs.declared.script.Script.{Script}
use Rattle.cf_next.specs.declared.step.Step.{Step}
use Rattle.cf_next.specs.Advance.{advanced}
use Rattle.cf_next.specs.Standing.{Standing}
use Rattle.cf_next.specs.Steps.{IsStep, StepRoom, demand_of, step_cut}
use Rattle.cf_next.specs.Standing.{finals_in}
use Rattle.cf_model.specs.State.{stand_at}
use Rattle.cf_model.specs.Known.{facts_of}
use Rattle.cf_world.specs.Grounds.{state_of, known}
use Rattle.cf_world.specs.Begun.{MovesBy}
use Rattle.cf_world.specs.Kept.{step_kept}
use Rattle.cf_world.proofs.Going.{found_here, none_here}
use Rattle.cf_world.proofs.Moving.{go_moves, lent_here, list_of_step, room_of_step, step_here, within_frames}
use Rattle.cf_world.proofs.applying.go_on.Goals as goal

pub advance_by-requires-clause-step : goal.advance_by-requires-clause-step
advance_by-requires-clause-step c =
    let g = c.args.ground.now in
    let t = c.args.t in
    let st = state_of g in
    let fs = c.args.frames.now.items in
    let P = IsStep g.script (facts_of st) t (stand_at t st.stands) in
    let found = found_here (step_kept c.args.found.now) P c.in-Some.step
    (subst (λ (r : Option Step). IfSome (step_kept c.args.found.now) (λ y. r ≡ Some y)) c.in-Some.is c.step_of.ensures) c.requires.step in
    let lent = lent_here fs t c.t.inside.0 c.index_mut.result.now _ c.index_mut.ensures.value c.t.view_is (within_frames g.script st.stands fs t c.requires.frames c.requires.thread) in
    subst (λ (s : Script). IsStep s (known g) c.index_mut.result.now.thread c.index_mut.result.now.stand c.in-Some.step) (sym c.script.ensures.script)
    (subst (λ (f : Standing). IsStep g.script (known g) f.thread f.stand c.in-Some.step) (sym lent)
    (step_here g.script st.stands fs t c.requires.frames c.requires.thread (known g) c.in-Some.step found.1))

pub advance_by-requires-clause-room : goal.advance_by-requires-clause-room
advance_by-requires-clause-room c =
    let g = c.args.ground.now in
    let fs = c.args.frames.now.items in
    let lent = lent_here fs c.args.t c.t.inside.0 c.index_mut.result.now _ c.index_mut.ensures.value c.t.view_is (within_frames g.script (state_of g).stands fs c.args.t c.requires.frames c.requires.thread) in
    subst (StepRoom c.in-Some.step (length c.args.list.now)) (sym lent) (room_of_step c.in-Some.step (length c.args.list.now) _ c.requires.room)

pub advance_by-requires-clause-list : goal.advance_by-requires-clause-list
advance_by-requires-clause-list c = list_of_step c.in-Some.step c.args.list.now c.requires.numbers

pub returns-in-Some : goal.returns-in-Some
returns-in-Some c =
    let g = c.args.ground.now in
    let t = c.args.t in
    let st = state_of g in
    let fs = c.args.frames.now.items in
    let x = c.in-Some.step in
    let P = IsStep g.script (facts_of st) t (stand_at t st.stands) in
    let found = found_here (step_kept c.args.found.now) P x (subst (λ (r : Option Step). IfSome (step_kept c.args.found.now) (λ y. r ≡ Some y)) c.in-Some.is c.step_of.ensures) c.requires.step in
    let lent = lent_here fs t c.t.inside.0 c.index_mut.result.now _ c.index_mut.ensures.value c.t.view_is (within_frames g.script st.stands fs t c.requires.frames c.requires.thread) in
    let finals = finals_in (step_cut x) c.args.answer.now in
    subst (λ (o : Option Step). IfSome o (MovesBy g t c.args.answer.now c.args.list.now (set fs c.t.inside.0 c.advance_by.new.self))) (sym found.0)
    (subst (λ (k : ℕ). MovesBy g t c.args.answer.now c.args.list.now (set fs k c.advance_by.new.self) x) (sym c.t.view_is)
    (go_moves g.script st.stands fs t c.requires.frames c.requires.thread (known g) (demand_of x) c.args.answer.now finals c.args.list.now c.advance_by.new.self
    (c.advance_by.ensures.thread ∙ ap (λ (f : Standing). f.thread) lent)
    (c.advance_by.ensures.stand ∙ ap (λ (f : Standing). advanced (known g) f.thread (demand_of x) c.args.answer.now finals c.args.list.now f.stand) lent)))

pub returns-in_default : goal.returns-in_default
returns-in_default c =
    let g = c.args.ground.now in
    let t = c.args.t in
    absurd (none_here (step_kept c.args.found.now) (IsStep g.script (facts_of (state_of g)) t (stand_at t (state_of g).stands))
    (subst (λ (r : Option Step). IfSome (step_kept c.args.found.now) (λ y. r ≡ Some y)) c.in_default.is c.step_of.ensures) c.requires.step)
