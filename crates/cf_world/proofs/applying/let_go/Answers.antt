-- Answers to the goals of `applying::let_go`.
use Rattle.std.proofs.Common.{[], arith, false, inl}
use Rattle.cf_world.specs.declared.found.Found.TheVariants as kept
use Rattle.cf_world.proofs.Going.{kept_as, list_here, no_retain, number_fits, release_gone, release_is, room_here, there_before}
use Rattle.cf_world.proofs.applying.let_go.Goals as goal

pub enter_cut-requires-clause-cut : goal.enter_cut-requires-clause-cut
enter_cut-requires-clause-cut c =
    let g = c.args.ground.now in
    let r = c.args.reserved.now in
    let w = c.in-Says in
    inl (release_is g r c.requires.reserved.found w.block w.number w.used false (kept_as g r (kept.Says w.block w.number w.used) c.requires.reserved.found w.is) c.args.object c.requires.cuts)

pub say_on-requires-clause-number : goal.say_on-requires-clause-number
say_on-requires-clause-number c =
    let g = c.args.ground.now in
    let r = c.args.reserved.now in
    let w = c.in-Says in
    number_fits g r c.requires.reserved.found w.block w.number w.used false (kept_as g r (kept.Says w.block w.number w.used) c.requires.reserved.found w.is) c.args.frames.now.items c.requires.frames

pub say_on-requires-clause-room : goal.say_on-requires-clause-room
say_on-requires-clause-room c =
    let g = c.args.ground.now in
    let r = c.args.reserved.now in
    let w = c.in-Says in
    let there = there_before g c.enter_cut.new.self c.args.frames.now.items c.args.frames.now.items r c.requires.reserved.found c.enter_cut.ensures.entered w.block w.number w.used w.is c.requires.frames c.in-Some.statement.now c.in-Some.ensures in
    room_here g r c.requires.reserved.found w.block w.number w.used w.is c.in-Some.statement.now there c.args.frames.now.items c.finalised.result 0 c.requires.reserved.room (omega arith)
    (no_retain g r c.requires.reserved.found w.block w.number w.used w.is c.in-Some.statement.now there c.args.object c.finalised.result c.requires.cuts)

pub say_on-requires-clause-list : goal.say_on-requires-clause-list
say_on-requires-clause-list c =
    let g = c.args.ground.now in
    let r = c.args.reserved.now in
    let w = c.in-Says in
    let there = there_before g c.enter_cut.new.self c.args.frames.now.items c.args.frames.now.items r c.requires.reserved.found c.enter_cut.ensures.entered w.block w.number w.used w.is c.requires.frames c.in-Some.statement.now c.in-Some.ensures in
    list_here g r c.requires.reserved.found w.block w.number w.used w.is c.in-Some.statement.now there [] (λ k d h. absurd (omega arith))

pub returns-in-Some : goal.returns-in-Some
returns-in-Some c =
    let g = c.args.ground.now in
    let r = c.args.reserved.now in
    let w = c.in-Says in
    record {
      gone = release_gone g c.enter_cut.new.self c.args.frames.now.items c.say_on.new.frames.items r c.requires.reserved.found c.enter_cut.ensures.entered w.block w.number w.used w.is c.requires.frames c.in-Some.statement.now c.in-Some.ensures
          c.args.object c.args.ended _ c.requires.cuts c.requires.ended c.finalised.ensures c.say_on.ensures;
    }
