-- Answers to the goals of `running::spend`.
use Rattle.std.proofs.Common.{◌∙◌, length, refl, sym, ap, arith}
use Rattle.std.proofs.lemmas.List.{length-replicate}
use Rattle.cf_next.specs.declared.step.Step.TheVariants as steps
use Rattle.cf_world.specs.declared.found.Found.TheVariants as kept
use Rattle.cf_world.proofs.Going.{kept_as, step_as}
use Rattle.cf_world.proofs.Rounds.{as_spent, leaves_fit, spend_gone, spends_room, spent_few}
use Rattle.cf_world.proofs.running.spend.Goals as goal

pub push_copies-requires-clause-room : goal.push_copies-requires-clause-room
push_copies-requires-clause-room c =
    let g = c.args.ground.now in
    let r = c.args.reserved.now in
    let found = as_spent r.found c.args.item c.requires.spends in
    let lists = c.requires.lists in
    omega (arith, spent_few g c.args.item c.places_of-went.result lists.more c.places_of-went.ensures (leaves_fit g r c.args.item found.0 lists.more found.1 lists.most), lists.list_fits)

pub go_on-requires-clause-step : goal.go_on-requires-clause-step
go_on-requires-clause-step c =
    let g = c.args.ground.now in
    let r = c.args.reserved.now in
    let found = as_spent r.found c.args.item c.requires.spends in
    step_as g r (kept.Spends c.args.item found.0) (steps.Spends c.args.item found.0) found.1 refl (kept_as g r (kept.Spends c.args.item found.0) c.requires.reserved.found found.1)

pub go_on-requires-clause-room : goal.go_on-requires-clause-room
go_on-requires-clause-room c =
    let g = c.args.ground.now in
    let r = c.args.reserved.now in
    let found = as_spent r.found c.args.item c.requires.spends in
    let lists = c.requires.lists in
    spends_room g c.args.frames.now.items r c.requires.reserved c.args.item found.0 _ found.1 lists.more lists.room
    (omega (arith, ap length (c.as_slice.ensures.value ∙ c.push_copies.ensures.items), length-replicate c.places_of-went.result c.args.item, spent_few g c.args.item c.places_of-went.result lists.more c.places_of-went.ensures (leaves_fit g r c.args.item found.0 lists.more found.1 lists.most)))

pub enter_spend-requires-clause-spends : goal.enter_spend-requires-clause-spends
enter_spend-requires-clause-spends c =
    let g = c.args.ground.now in
    let r = c.args.reserved.now in
    let found = as_spent r.found c.args.item c.requires.spends in
    (kept_as g r (kept.Spends c.args.item found.0) c.requires.reserved.found found.1).demand

pub returns-clause-gone : goal.returns-clause-gone
returns-clause-gone c =
    let r = c.args.reserved.now in
    let found = as_spent r.found c.args.item c.requires.spends in
    spend_gone c.args.ground.now c.enter_spend.new.self c.go_on.new.frames.items r c.requires.reserved.found c.enter_spend.ensures.entered
    _ _ c.go_on.ensures c.args.item found.0 found.1 (c.as_slice.ensures.value ∙ c.push_copies.ensures.items ∙ sym c.places_of-went.ensures)
