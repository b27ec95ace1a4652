-- Answers to the goals of `running::go_round`.
use Rattle.cf_world.proofs.Rounds.{lists_alone, round_still}
use Rattle.cf_world.proofs.running.go_round.Goals as goal

pub spend-requires-clause-lists : goal.spend-requires-clause-lists
spend-requires-clause-lists c = lists_alone c.args.ground.now c.args.frames.now.items _ _ c.args.reserved.now c.requires.lists

pub still-requires-clause-still : goal.still-requires-clause-still
still-requires-clause-still c = round_still c.args.reserved.now.found c.requires.round c.in_default.not-Spends c.in_default.not-Calls c.in_default.not-Enters
