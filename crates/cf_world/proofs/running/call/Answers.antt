-- Answers to the goals of `running::call`.
use Rattle.std.proofs.Common.{◌∙◌, ◌∷◌, [], ℕ, Option, ap, refl, sym}
use Rattle.std.specs.Option.{option_and_then}
use Rattle.cf_next.specs.Stands.{Stand, Turn}
use Rattle.cf_next.specs.Standing.{innermost_run}
use Rattle.cf_contents.specs.Contents.{present}
use Rattle.cf_next.specs.Views.{callee_of, object_of}
use Rattle.cf_next.specs.declared.step.Step.TheVariants as steps
use Rattle.cf_world.specs.Grounds.{state_of}
use Rattle.cf_world.specs.declared.found.Found.TheVariants as kept
use Rattle.cf_world.proofs.Going.{kept_as, step_as}
use Rattle.cf_world.proofs.Moving.{lent_here, within_frames}
use Rattle.cf_world.proofs.Rounds.{answer_called, as_call, call_gains, call_gone, calls_room, stand_told}
use Rattle.cf_world.proofs.running.call.Goals as goal

pub go_on-requires-clause-step : goal.go_on-requires-clause-step
go_on-requires-clause-step c =
    let g = c.args.ground.now in
    let r = c.args.reserved.now in
    let k = c.args.callee.now in
    let o = c.args.info.now in
    let f = as_call r.found k o c.requires.calls in
    step_as g r (kept.Calls k f.handler o f.left) (steps.Calls k f.handler o f.left) f.is refl (kept_as g r (kept.Calls k f.handler o f.left) c.requires.reserved.found f.is)

pub go_on-requires-clause-room : goal.go_on-requires-clause-room
go_on-requires-clause-room c =
    let r = c.args.reserved.now in
    let f = as_call r.found c.args.callee.now c.args.info.now c.requires.calls in
    calls_room c.args.ground.now c.args.frames.now.items r c.requires.reserved c.args.callee.now f.handler c.args.info.now f.left f.is

pub enter_call-requires-clause-calls : goal.enter_call-requires-clause-calls
enter_call-requires-clause-calls c =
    let g = c.args.ground.now in
    let r = c.args.reserved.now in
    let f = as_call r.found c.args.callee.now c.args.info.now c.requires.calls in
    record { callout = _; demands = (kept_as g r (kept.Calls c.args.callee.now f.handler c.args.info.now f.left) c.requires.reserved.found f.is).demand }

pub enter_call-requires-clause-answers : goal.enter_call-requires-clause-answers
enter_call-requires-clause-answers c =
    let g = c.args.ground.now in
    let r = c.args.reserved.now in
    let t = r.thread in
    let fs = c.args.frames.now.items in
    let lent = lent_here fs t c.t.inside.0 c.index.result.now _ c.index.ensures c.t.view_is (within_frames g.script (state_of g).stands fs t c.requires.frames c.requires.reserved.found.acts.thread) in
    let f = as_call r.found c.args.callee.now c.args.info.now c.requires.calls in
    c.answer_of_call-answer.ensures
    ∙ answer_called g t (callee_of c.args.callee.now) _ c.last.result (kept_as g r (kept.Calls c.args.callee.now f.handler c.args.info.now f.left) c.requires.reserved.found f.is).demand
    (c.last.ensures ∙ ap (λ (s : Stand). option_and_then (λ (x : Turn). x.last) (innermost_run s.frames)) (stand_told g fs t c.index.result.now c.requires.frames lent))

pub returns-clause-gone : goal.returns-clause-gone
returns-clause-gone c =
    let r = c.args.reserved.now in
    let f = as_call r.found c.args.callee.now c.args.info.now c.requires.calls in
    call_gone c.args.ground.now c.enter_call.new.self c.go_on.new.frames.items r c.requires.reserved.found c.enter_call.ensures.entered
    _ _ c.go_on.ensures c.args.callee.now f.handler c.args.info.now f.left f.is refl

pub returns-clause-gained : goal.returns-clause-gained
returns-clause-gained c =
    let g = c.args.ground.now in
    let r = c.args.reserved.now in
    let f = as_call r.found c.args.callee.now c.args.info.now c.requires.calls in
    let h = kept_as g r (kept.Calls c.args.callee.now f.handler c.args.info.now f.left) c.requires.reserved.found f.is in
    c.put_all.ensures.items ∙ ap (λ (o : Option ℕ). present (o ∷ c.item.result ∷ [])) c.object.ensures ∙ ap (λ (o : Option ℕ). present (object_of c.args.info.now ∷ o ∷ [])) c.item.ensures
    ∙ sym (call_gains g r.thread (callee_of c.args.callee.now) _ h.demand)
