-- Answers to the goals of `sources::signal`.
use Rattle.cf_scene.proofs.Things.{valid_signalled, invalid_signalled, none_signalled}
use Rattle.cf_scene.proofs.sources.signal.Goals as goal

pub returns-in-Some : goal.returns-in-Some
returns-in-Some c = λ p mirrors.
    valid_signalled p c.args.store.now.bodies c.args.i mirrors c.in-Some.item c.in-Some.ensures c.signal.new.self.bodies c.if-item.true c.signal.ensures.bodies

pub returns-in-Some-2 : goal.returns-in-Some-2
returns-in-Some-2 c = λ p mirrors.
    invalid_signalled p c.args.store.now.bodies c.args.i mirrors c.in-Some.item c.in-Some.ensures c.if-item.false

pub returns-in-None : goal.returns-in-None
returns-in-None c = λ p mirrors. none_signalled p c.args.store.now.bodies c.args.i mirrors c.in-None.ensures
