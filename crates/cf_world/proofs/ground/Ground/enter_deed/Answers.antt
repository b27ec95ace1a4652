-- Answers to the goals of `ground::Ground::enter_deed`.
use Rattle.std.proofs.Common.{◌∙◌, ◌∷◌, ◌++◌, [], refl, ap}
use Rattle.cf_syntax.specs.BlockLines.{says}
use Rattle.cf_next.specs.Demands.{does}
use Rattle.cf_world.proofs.Growing.{ground_after, has_written}
use Rattle.cf_world.proofs.Stating.{is_some, dealt_follows, dealt_entry, dealt_gained, dealt_listed}
use Rattle.cf_world.proofs.ground.Ground.enter_deed.Goals as goal

pub apply-answer-requires : goal.apply-answer-requires
apply-answer-requires c = is_some (rw (← c.self.view_is) at c.requires.deed).ready

pub invariant_of-self : goal.invariant_of-self
invariant_of-self c =
    let deed = rw (← c.self.view_is) at c.requires.deed in
    ground_after c.self.inside c.args.t c.args.action (does (says deed.statement)) c.self.invariant (rw (← c.self.view_is) at c.requires.acts) deed.demands _ refl
    (c.push_reserved.ensures.items ∙ ap (λ e. c.self.inside.journal.items ++ e ∷ []) (dealt_entry c.self.inside c.args.t c.self.invariant deed c.args.action c.apply-answer.result c.apply-answer.ensures.deed))
    (dealt_follows c.self.inside c.args.t c.self.invariant deed _ c.apply-answer.ensures.bodies)

pub returns-clause-entered : goal.returns-clause-entered
returns-clause-entered c =
    let deed = rw (← c.self.view_is) at c.requires.deed in
    rw (← c.self.view_is) (has_written c.self.inside c.args.t c.args.action (rw (← c.self.view_is) at c.requires.acts) c.push_reserved.new.self _ _ _
    (c.push_reserved.ensures.items ∙ ap (λ e. c.self.inside.journal.items ++ e ∷ []) (dealt_entry c.self.inside c.args.t c.self.invariant deed c.args.action c.apply-answer.result c.apply-answer.ensures.deed))
    c.push_reserved.ensures.capacity)

pub returns-clause-gained : goal.returns-clause-gained
returns-clause-gained c =
    let deed = rw (← c.self.view_is) at c.requires.deed in
    rw (← c.self.view_is) (c.put_all.ensures.items ∙ dealt_gained c.self.inside c.args.t c.self.invariant deed _ c.apply-answer.ensures.took)

pub returns-clause-list : goal.returns-clause-list
returns-clause-list c =
    let deed = rw (← c.self.view_is) at c.requires.deed in
    rw (← c.self.view_is) (c.put_numbers.ensures.items ∙ dealt_listed c.self.inside c.args.t c.self.invariant deed _ c.apply-answer.ensures.gave)
