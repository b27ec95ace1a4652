-- Answers to the goals of `applying::cut`.
use Rattle.cf_world.proofs.Rounds.{only_cut}
use Rattle.cf_world.proofs.applying.cut.Goals as goal

pub returns-in_default : goal.returns-in_default
returns-in_default c =
    let n = c.in_default in
    let r = c.args.reserved.now in
    absurd (only_cut c.args.ground.now r c.args.object c.requires.reserved.found c.requires.cuts r.found c.requires.reserved.found.kept n.not-Says n.not-Owes n.not-Drops)
