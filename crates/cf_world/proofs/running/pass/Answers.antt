-- Answers to the goals of `running::pass`.
use Rattle.cf_world.proofs.Rounds.{pass_gone}
use Rattle.cf_world.proofs.running.pass.Goals as goal

pub returns-clause-gone : goal.returns-clause-gone
returns-clause-gone c =
    pass_gone c.args.ground.now c.enter_pass.new.self c.go_on.new.frames.items c.args.reserved.now c.requires.reserved.found c.enter_pass.ensures.entered
    c.args.answer c.args.list.now c.go_on.ensures c.requires.passes
