-- Answers to the goals of `applying::retain`.
use Rattle.std.proofs.Common.{false}
use Rattle.cf_world.specs.declared.found.Found.TheVariants as kept
use Rattle.cf_world.proofs.Going.{booked_gone, booked_is, booked_room, kept_as, number_fits, there_before}
use Rattle.cf_world.proofs.Rounds.{only_retain}
use Rattle.cf_world.proofs.applying.retain.Goals as goal

pub enter_retain-requires-clause-retain : goal.enter_retain-requires-clause-retain
enter_retain-requires-clause-retain c =
    let g = c.args.ground.now in
    let r = c.args.reserved.now in
    let w = c.in-Says in
    booked_is g r c.requires.found w.block w.number w.used false (kept_as g r (kept.Says w.block w.number w.used) c.requires.found w.is) c.args.object c.requires.retains

pub say_on-requires-clause-number : goal.say_on-requires-clause-number
say_on-requires-clause-number c =
    let g = c.args.ground.now in
    let r = c.args.reserved.now in
    let w = c.in-Says in
    number_fits g r c.requires.found w.block w.number w.used false (kept_as g r (kept.Says w.block w.number w.used) c.requires.found w.is) c.args.frames.now.items c.requires.frames

pub say_on-requires-clause-room : goal.say_on-requires-clause-room
say_on-requires-clause-room c =
    let g = c.args.ground.now in
    let r = c.args.reserved.now in
    let w = c.in-Says in
    let there = there_before g c.enter_retain.new.self c.args.frames.now.items c.args.frames.now.items r c.requires.found c.enter_retain.ensures.entered w.block w.number w.used w.is c.requires.frames c.in-Some.statement.now c.in-Some.ensures in
    booked_room g r c.requires.found w.block w.number w.used w.is c.in-Some.statement.now there c.args.object _ c.requires.retains

pub returns-in-Some : goal.returns-in-Some
returns-in-Some c =
    let w = c.in-Says in
    record {
      gone = booked_gone c.args.ground.now c.enter_retain.new.self c.args.frames.now.items c.say_on.new.frames.items c.args.reserved.now c.requires.found c.enter_retain.ensures.entered w.block w.number w.used w.is c.requires.frames
          c.in-Some.statement.now c.in-Some.ensures c.args.object c.requires.retains c.say_on.ensures;
    }

pub returns-in_default : goal.returns-in_default
returns-in_default c =
    let r = c.args.reserved.now in
    absurd (only_retain c.args.ground.now r c.args.object c.requires.found c.requires.retains r.found c.requires.found.kept c.in_default.not-Says)
