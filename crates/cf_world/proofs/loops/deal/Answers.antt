-- Answers to the goals of `loops::deal`.
use Rattle.std.proofs.Common.{◌∙◌, Bool, length, ap, arith, sym, subst, vec_capacity}
use Rattle.std.specs.Prelude.{IsSomeAnd}
use Rattle.cf_world.specs.Entering.{IsDealing}
use Rattle.cf_syntax.specs.declared.script.Script.{Script}
use Rattle.cf_world.specs.Grounds.{statement_at}
use Rattle.cf_world.proofs.Deals.{deal_gone, dealing_there, fits_there, listed_few, number_here, room_here, stops_within}
use Rattle.cf_world.proofs.loops.deal.Goals as goal

pub enter_deal-requires-clause-deals : goal.enter_deal-requires-clause-deals
enter_deal-requires-clause-deals c =
    let g = c.args.ground.now in
    let r = c.args.reserved.now in
    let d = c.in-Deals in
    let found = c.requires.reserved.found in
    let lists = c.requires.lists in
    subst (λ (runs : Bool). IsSomeAnd (statement_at g.script d.block d.number) (IsDealing g r.thread c.first.result runs)) (sym c.is_some.ensures)
    (dealing_there g r found d.block d.number d.used d.is c.first.result c.stopped_by-stopped.result c.first.ensures c.stopped_by-stopped.ensures c.requires.reserved.ready)

pub enter_deal-requires-clause-most : goal.enter_deal-requires-clause-most
enter_deal-requires-clause-most c =
    let g = c.args.ground.now in
    let r = c.args.reserved.now in
    let d = c.in-Deals in
    let found = c.requires.reserved.found in
    let lists = c.requires.lists in
    fits_there g r found d.block d.number d.used d.is lists.more (vec_capacity c.args.gained.now) lists.gained_fits lists.most

pub enter_deal-requires-clause-most_left : goal.enter_deal-requires-clause-most_left
enter_deal-requires-clause-most_left c =
    let g = c.args.ground.now in
    let r = c.args.reserved.now in
    let d = c.in-Deals in
    let found = c.requires.reserved.found in
    let lists = c.requires.lists in
    fits_there g r found d.block d.number d.used d.is lists.more (vec_capacity c.args.list.now) lists.list_fits lists.most

pub say_on-requires-clause-number : goal.say_on-requires-clause-number
say_on-requires-clause-number c =
    let g = c.args.ground.now in
    let r = c.args.reserved.now in
    let d = c.in-Deals in
    let found = c.requires.reserved.found in
    let lists = c.requires.lists in
    let there = c.in-Some.ensures ∙ ap (λ (s : Script). statement_at s d.block d.number) c.enter_deal.ensures.entered.script in
    number_here g r found d.block d.number d.used d.is c.args.frames.now.items c.requires.frames c.in-Some.statement.now there

pub say_on-requires-clause-room : goal.say_on-requires-clause-room
say_on-requires-clause-room c =
    let g = c.args.ground.now in
    let r = c.args.reserved.now in
    let d = c.in-Deals in
    let found = c.requires.reserved.found in
    let lists = c.requires.lists in
    let there = c.in-Some.ensures ∙ ap (λ (s : Script). statement_at s d.block d.number) c.enter_deal.ensures.entered.script in
    room_here g r found d.block d.number d.used d.is c.args.frames.now.items c.requires.frames c.in-Some.statement.now there _ _ (length c.as_slice-in-Some.result.now) lists
    (omega (arith, ap length (c.as_slice-in-Some.ensures.value ∙ c.enter_deal.ensures.list), listed_few g r found d.block d.number d.used d.is lists.more lists.most))

pub stop_run-requires : goal.stop_run-requires
stop_run-requires c =
    let g = c.args.ground.now in
    let r = c.args.reserved.now in
    let d = c.in-Deals in
    let found = c.requires.reserved.found in
    let lists = c.requires.lists in
    stops_within g r found d.block d.number d.used d.is c.enter_deal.new.self c.args.frames.now.items c.say_on.new.frames.items c.say_on.new.frames.items c.enter_deal.ensures.entered c.requires.frames c.in-Some.statement.now c.in-Some.ensures
    c.as_slice-in-Some.result.now c.stopped_by-stopped.result c.stopped_by-stopped.ensures c.say_on.ensures

pub returns-in-Some-clause-gone : goal.returns-in-Some-clause-gone
returns-in-Some-clause-gone c =
    let g = c.args.ground.now in
    let r = c.args.reserved.now in
    let d = c.in-Deals in
    let found = c.requires.reserved.found in
    let lists = c.requires.lists in
    deal_gone g r found d.block d.number d.used d.is c.enter_deal.new.self c.args.frames.now.items c.say_on.new.frames.items c.stop_run.new.frames.items c.enter_deal.ensures.entered c.requires.frames c.in-Some.statement.now c.in-Some.ensures
    c.as_slice-in-Some.result.now c.stopped_by-stopped.result (c.as_slice-in-Some.ensures.value ∙ c.enter_deal.ensures.list) c.stopped_by-stopped.ensures c.say_on.ensures c.stop_run.ensures
