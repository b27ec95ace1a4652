-- Answers to the goals of `applying::pack`.
use Rattle.std.proofs.Common.{length, arith, ap, refl, sym}
use Rattle.cf_next.specs.declared.step.Step.TheVariants as steps
use Rattle.cf_world.specs.declared.found.Found.TheVariants as kept
use Rattle.cf_world.specs.Grounds.{state_of}
use Rattle.cf_world.proofs.Going.{has_room, kept_as, object_here, pack_gone, step_as}
use Rattle.cf_world.proofs.Moving.{within_frames}
use Rattle.cf_world.proofs.applying.pack.Goals as goal

pub object_of-object-requires : goal.object_of-object-requires
object_of-object-requires c =
    let g = c.args.ground.now in
    let r = c.args.reserved.now in
    omega (arith, ap length c.as_slice.ensures.value, within_frames g.script (state_of g).stands c.args.frames.now.items r.thread c.requires.frames c.requires.reserved.found.acts.thread)

pub go_on-requires-clause-step : goal.go_on-requires-clause-step
go_on-requires-clause-step c =
    let g = c.args.ground.now in
    let r = c.args.reserved.now in
    let p = c.in-Packs in
    step_as g r (kept.Packs p.thread p.place p.variable) (steps.Packs p.thread p.place p.variable) p.is refl (kept_as g r (kept.Packs p.thread p.place p.variable) c.requires.reserved.found p.is)

pub go_on-requires-clause-room : goal.go_on-requires-clause-room
go_on-requires-clause-room c =
    let g = c.args.ground.now in
    let r = c.args.reserved.now in
    let p = c.in-Packs in
    has_room g c.args.frames.now.items r (steps.Packs p.thread p.place p.variable) c.requires.reserved (kept_as g r (kept.Packs p.thread p.place p.variable) c.requires.reserved.found p.is) refl

pub enter_pack-requires-clause-pack : goal.enter_pack-requires-clause-pack
enter_pack-requires-clause-pack c =
    let g = c.args.ground.now in
    let r = c.args.reserved.now in
    let p = c.in-Packs in
    record {
      var = p.variable;
      demands = (kept_as g r (kept.Packs p.thread p.place p.variable) c.requires.reserved.found p.is).demand;
      object_is = sym (object_here g c.args.frames.now.items c.as_slice.result.now r.thread p.variable c.object_of-object.result c.requires.frames c.as_slice.ensures.value c.object_of-object.ensures);
    }

pub returns-clause-gone : goal.returns-clause-gone
returns-clause-gone c =
    let g = c.args.ground.now in
    let r = c.args.reserved.now in
    let p = c.in-Packs in
    pack_gone g c.enter_pack.new.self c.go_on.new.frames.items r c.requires.reserved.found c.enter_pack.ensures.entered c.answer_for-answer.result c.go_on.ensures
    p.thread p.place p.variable c.object_of.result p.is
    (object_here g c.args.frames.now.items c.as_slice-2.result.now r.thread p.variable c.object_of.result c.requires.frames c.as_slice-2.ensures.value c.object_of.ensures) c.answer_for-answer.ensures
