-- Answers to the goals of `applying::enter`.
use Rattle.cf_world.proofs.Going.{nothing_cut}
use Rattle.cf_world.proofs.Rounds.{else_round}
use Rattle.cf_world.proofs.applying.enter.Goals as goal

pub returns-in-Owes-clause-gone : goal.returns-in-Owes-clause-gone
returns-in-Owes-clause-gone c = absurd (nothing_cut c.args.ground.now c.args.reserved.now c.requires.reserved.found c.requires.keeps c.in-Owes.is)

pub returns-in-Owes-clause-gained : goal.returns-in-Owes-clause-gained
returns-in-Owes-clause-gained c = absurd (nothing_cut c.args.ground.now c.args.reserved.now c.requires.reserved.found c.requires.keeps c.in-Owes.is)

pub go_round-requires-clause-round : goal.go_round-requires-clause-round
go_round-requires-clause-round c =
    let n = c.in_default in
    else_round c.args.reserved.now.found n.not-Claims n.not-Says n.not-Deals n.not-Packs n.not-Ends n.not-Owes n.not-Drops
