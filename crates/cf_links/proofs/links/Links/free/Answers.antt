-- Answers to the goals of `links::Links::free`.
use Rattle.std.proofs.Common.{◌≡◌, ◌-◌, ◌+◌, None, refl, sym, ◌∙◌, arith}
use Rattle.slab.specs.Slab.{slab_len}
use Rattle.cf_links.specs.Lists.{list_of}
use Rattle.cf_links.specs.Fields.{lists_of}
use Rattle.cf_links.proofs.FieldLemmas.{free_seen, values_freed, none_from}
use Rattle.cf_links.proofs.links.Links.free.Goals as goal

pub invariant_of-self-2 : goal.invariant_of-self-2
invariant_of-self-2 g c =
    let here : c.n.inside.0 ≡ c.args.n = c.n.view_is in
    let loose : list_of (lists_of c.self.inside.nodes c.self.inside.ends.items) c.args.n ≡ None =
    rw (← c.self.view_is) at (sym c.list_of.ensures.list ∙ none_from c.list_of.result c.if-is_some.ensures) in
    (free_seen c.self.inside.nodes c.try_remove.new.self c.self.inside.ends.items c.args.n c.self.invariant loose
    (rw here at c.try_remove.ensures.updates)).sound

pub returns-clause-freed : goal.returns-clause-freed
returns-clause-freed g c =
    let here : c.n.inside.0 ≡ c.args.n = c.n.view_is in
    let loose : list_of (lists_of c.self.inside.nodes c.self.inside.ends.items) c.args.n ≡ None =
    rw (← c.self.view_is) at (sym c.list_of.ensures.list ∙ none_from c.list_of.result c.if-is_some.ensures) in
    let made = free_seen c.self.inside.nodes c.try_remove.new.self c.self.inside.ends.items c.args.n c.self.invariant
    loose (rw here at c.try_remove.ensures.updates) in
    let values = values_freed c.self.inside.nodes c.try_remove.new.self c.args.n
    (rw here at c.in_ok-entry.ensures.slots) in
    let room : c.self.inside.nodes.capacity - slab_len c.try_remove.new.self
    ≡ c.self.inside.nodes.capacity - slab_len c.self.inside.nodes + 1 =
    omega (arith, c.in_ok-entry.ensures.len, c.in_ok-entry.ensures.room, c.in_ok-entry.ensures.capacity) in
    rw (← c.self.view_is, made.seen_as, values, c.in_ok-entry.ensures.capacity, room) refl
