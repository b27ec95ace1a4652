-- Answers to the goals of `links::Links::make`.
use Rattle.std.proofs.Common.{◌≡◌, ◌-◌, ◌+◌, refl, ap, sym, ◌∙◌, arith}
use Rattle.std.specs.Option.{option_map}
use Rattle.slab.specs.Slab.{slab_len}
use Rattle.cf_links.proofs.FieldLemmas.{make_seen, make_loose, value_seen}
use Rattle.cf_links.proofs.links.Links.make.Goals as goal

pub invariant_of-self : goal.invariant_of-self
invariant_of-self g c =
    (make_seen c.self.inside.nodes c.insert_reserved.new.self c.self.inside.ends.items c.insert_reserved.result c.args.v
    c.self.invariant c.insert_reserved.ensures.was_vacant c.insert_reserved.ensures.updates).sound

pub returns-clause-others : goal.returns-clause-others
returns-clause-others g c =
    rw (← c.self.view_is) (λ m differs.
    value_seen c.insert_reserved.new.self m
    ∙ ap (option_map (λ e. e.value)) (c.insert_reserved.ensures.updates.others m differs)
    ∙ sym (value_seen c.self.inside.nodes m))

pub returns-clause-loose : goal.returns-clause-loose
returns-clause-loose g c =
    let made = make_seen c.self.inside.nodes c.insert_reserved.new.self c.self.inside.ends.items
    c.insert_reserved.result c.args.v c.self.invariant c.insert_reserved.ensures.was_vacant
    c.insert_reserved.ensures.updates in
    rw made.seen_as (make_loose c.self.inside.nodes c.self.inside.ends.items c.insert_reserved.result c.self.invariant
    c.insert_reserved.ensures.was_vacant)

pub returns-clause-rest : goal.returns-clause-rest
returns-clause-rest g c =
    let made = make_seen c.self.inside.nodes c.insert_reserved.new.self c.self.inside.ends.items
    c.insert_reserved.result c.args.v c.self.invariant c.insert_reserved.ensures.was_vacant
    c.insert_reserved.ensures.updates in
    let room : c.self.inside.nodes.capacity - (slab_len c.self.inside.nodes + 1)
    ≡ c.self.inside.nodes.capacity - slab_len c.self.inside.nodes - 1 = omega arith in
    rw (← c.self.view_is, c.insert_reserved.ensures.capacity, c.insert_reserved.ensures.len, room, made.seen_as) refl
