-- Answers to the goals of `applying::enter_statement`.
use Rattle.cf_world.proofs.Going.{deed_asked, skip_asked}
use Rattle.cf_world.proofs.applying.enter_statement.Goals as goal

pub enter_deed-requires-clause-deed : goal.enter_deed-requires-clause-deed
enter_deed-requires-clause-deed c =
    let s = c.in-Says in
    deed_asked c.args.ground.now c.args.reserved.now c.requires.found s.block s.number s.used s.is c.in-Some.statement.now c.in-Some.ensures c.in-Keeps.ensures c.requires.ready

pub enter_skip-requires-clause-skip : goal.enter_skip-requires-clause-skip
enter_skip-requires-clause-skip c =
    let s = c.in-Says in
    skip_asked c.args.ground.now c.args.reserved.now c.requires.found s.block s.number s.used s.is c.in-Some.statement.now c.in-Some.ensures c.in-Releases.field-0 c.in-Releases.ensures c.requires.keeps
