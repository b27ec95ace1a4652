-- Answers to the goals of `ground::Ground::enter_binding`.
use Rattle.std.proofs.Common.{◌∙◌, ◌∷◌, ◌++◌, [], refl, ap}
use Rattle.cf_syntax.specs.BlockLines.{says}
use Rattle.cf_next.specs.Demands.{does}
use Rattle.cf_world.proofs.Growing.{ground_after, has_written}
use Rattle.cf_world.proofs.Stating.{is_some, bound_new, bound_room, bound_follows, bound_entry, bound_gained}
use Rattle.cf_world.proofs.ground.Ground.enter_binding.Goals as goal

pub apply-otherwise-requires : goal.apply-otherwise-requires
apply-otherwise-requires c = is_some (rw (← c.self.view_is) at c.requires.binding).ready

pub found-object-requires-clause-new : goal.found-object-requires-clause-new
found-object-requires-clause-new c =
    bound_new c.self.inside c.args.t c.args.action c.self.invariant (rw (← c.self.view_is) at c.requires.acts) (rw (← c.self.view_is) at c.requires.binding)
    c.apply-otherwise.result c.apply-otherwise.new.self.bodies c.apply-otherwise.ensures.deed c.apply-otherwise.ensures.bodies

pub found-object-requires-clause-room : goal.found-object-requires-clause-room
found-object-requires-clause-room c =
    bound_room c.self.inside c.args.t c.args.action c.self.invariant (rw (← c.self.view_is) at c.requires.acts) (rw (← c.self.view_is) at c.requires.binding)
    c.apply-otherwise.result c.apply-otherwise.new.self.bodies c.apply-otherwise.ensures.deed c.apply-otherwise.ensures.bodies _ c.apply-otherwise.ensures.room

pub invariant_of-self : goal.invariant_of-self
invariant_of-self c =
    let acts = rw (← c.self.view_is) at c.requires.acts in
    let binding = rw (← c.self.view_is) at c.requires.binding in
    ground_after c.self.inside c.args.t c.args.action (does (says binding.statement)) c.self.invariant acts binding.demands _ refl
    (c.push_reserved.ensures.items ∙ ap (λ e. c.self.inside.journal.items ++ e ∷ []) (bound_entry c.self.inside c.args.t c.args.action c.self.invariant acts binding
    c.apply-otherwise.result c.apply-otherwise.new.self.bodies c.apply-otherwise.ensures.deed c.apply-otherwise.ensures.bodies _ _ c.found-object.ensures.object c.answer_of_binding-answer.ensures))
    (bound_follows c.self.inside c.args.t c.args.action c.self.invariant acts binding
    c.apply-otherwise.result c.apply-otherwise.new.self.bodies c.apply-otherwise.ensures.deed c.apply-otherwise.ensures.bodies _ c.found-object.ensures.bodies)

pub returns-clause-entered : goal.returns-clause-entered
returns-clause-entered c =
    let acts = rw (← c.self.view_is) at c.requires.acts in
    let binding = rw (← c.self.view_is) at c.requires.binding in
    rw (← c.self.view_is) (has_written c.self.inside c.args.t c.args.action acts c.push_reserved.new.self _ _ _
    (c.push_reserved.ensures.items ∙ ap (λ e. c.self.inside.journal.items ++ e ∷ []) (bound_entry c.self.inside c.args.t c.args.action c.self.invariant acts binding
    c.apply-otherwise.result c.apply-otherwise.new.self.bodies c.apply-otherwise.ensures.deed c.apply-otherwise.ensures.bodies _ _ c.found-object.ensures.object c.answer_of_binding-answer.ensures))
    c.push_reserved.ensures.capacity)

pub returns-clause-gained : goal.returns-clause-gained
returns-clause-gained c =
    let acts = rw (← c.self.view_is) at c.requires.acts in
    let binding = rw (← c.self.view_is) at c.requires.binding in
    rw (← c.self.view_is) (c.put_found.ensures.items ∙ bound_gained c.self.inside c.args.t c.args.action c.self.invariant acts binding
    c.apply-otherwise.result c.apply-otherwise.new.self.bodies c.apply-otherwise.ensures.deed c.apply-otherwise.ensures.bodies _ c.found-object.ensures.object)
