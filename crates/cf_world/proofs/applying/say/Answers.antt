-- Answers to the goals of `applying::say`.
use Rattle.std.proofs.Common.{◌∙◌, false, length, None, arith, ap, sym, subst}
use Rattle.std.specs.List.{All}
use Rattle.cf_ids.specs.Ranges.{IsObjectNumber}
use Rattle.cf_world.specs.declared.found.Found.TheVariants as kept
use Rattle.cf_world.proofs.Going.{kept_as, list_here, number_fits, quiet_gone, quiet_retain, room_here, there_before}
use Rattle.cf_world.proofs.applying.say.Goals as goal

pub say_on-requires-clause-number : goal.say_on-requires-clause-number
say_on-requires-clause-number c =
    let g = c.args.ground.now in
    let r = c.args.reserved.now in
    let w = c.in-Says in
    number_fits g r c.requires.reserved.found w.block w.number w.used false (kept_as g r (kept.Says w.block w.number w.used) c.requires.reserved.found w.is) c.args.frames.now.items c.requires.frames

pub say_on-requires-clause-room : goal.say_on-requires-clause-room
say_on-requires-clause-room c =
    let g = c.args.ground.now in
    let r = c.args.reserved.now in
    let w = c.in-Says in
    let there = there_before g c.enter_statement.new.ground c.args.frames.now.items c.args.frames.now.items r c.requires.reserved.found c.enter_statement.ensures.entered w.block w.number w.used w.is c.requires.frames c.in-Some.statement.now c.in-Some.ensures in
    room_here g r c.requires.reserved.found w.block w.number w.used w.is c.in-Some.statement.now there c.args.frames.now.items None (length c.as_slice.result.now) c.requires.reserved.room
    (omega (arith, ap length c.as_slice.ensures.value, c.enter_statement.ensures.few_listed))
    (quiet_retain g r c.requires.reserved.found w.block w.number w.used w.is c.in-Some.statement.now there c.as_slice.result.now (c.as_slice.ensures.value ∙ c.enter_statement.ensures.list))

pub say_on-requires-clause-list : goal.say_on-requires-clause-list
say_on-requires-clause-list c =
    let g = c.args.ground.now in
    let r = c.args.reserved.now in
    let w = c.in-Says in
    let there = there_before g c.enter_statement.new.ground c.args.frames.now.items c.args.frames.now.items r c.requires.reserved.found c.enter_statement.ensures.entered w.block w.number w.used w.is c.requires.frames c.in-Some.statement.now c.in-Some.ensures in
    list_here g r c.requires.reserved.found w.block w.number w.used w.is c.in-Some.statement.now there c.as_slice.result.now (subst (All IsObjectNumber) (sym c.as_slice.ensures.value) c.enter_statement.ensures.numbers)

pub returns-in-Some-clause-gone : goal.returns-in-Some-clause-gone
returns-in-Some-clause-gone c =
    let g = c.args.ground.now in
    let r = c.args.reserved.now in
    let w = c.in-Says in
    quiet_gone g c.enter_statement.new.ground c.args.frames.now.items c.say_on.new.frames.items r c.requires.reserved.found c.enter_statement.ensures.entered w.block w.number w.used w.is c.requires.frames c.in-Some.statement.now c.in-Some.ensures
    c.as_slice.result.now c.requires.keeps (c.as_slice.ensures.value ∙ c.enter_statement.ensures.list) c.say_on.ensures
