-- Answers to the goals of `links::Links::make_list`.
use Rattle.std.proofs.Common.{◌≡◌, ◌-◌, ◌+◌, refl, arith}
use Rattle.std.specs.Vec.{vec_len, vec_capacity}
use Rattle.cf_links.proofs.FieldLemmas.{make_list_seen}
use Rattle.cf_links.proofs.links.Links.make_list.Goals as goal

pub invariant_of-self : goal.invariant_of-self
invariant_of-self g c = rw c.push_reserved.ensures.items
    (make_list_seen c.self.inside.nodes c.self.inside.ends.items c.self.invariant).sound

pub returns-clause-made : goal.returns-clause-made
returns-clause-made g c =
    let made = make_list_seen c.self.inside.nodes c.self.inside.ends.items c.self.invariant in
    let room : vec_capacity c.self.inside.ends - (vec_len c.self.inside.ends + 1)
    ≡ vec_capacity c.self.inside.ends - vec_len c.self.inside.ends - 1 = omega arith in
    rw (
      ← c.self.view_is,
      c.push_reserved.ensures.items,
      c.push_reserved.ensures.capacity,
      c.push_reserved.ensures.len,
      room,
      made.seen_as,
    ) refl
