-- Answers to the goals of `lists::Lists::append`.
use Rattle.std.proofs.Common.{◌≡◌, ◌+◌, ◌-◌, refl, vec_len, vec_capacity, arith}
use Rattle.std.proofs.lemmas.List.{map-append}
use Rattle.cf_notify.proofs.Steps.{marks_on}
use Rattle.cf_notify.proofs.Chains.{linked_longer}
use Rattle.cf_notify.proofs.lists.Lists.append.Goals as goal

pub invariant_of-self : goal.invariant_of-self
invariant_of-self c =
    let made = rw (← c.self.view_is) at c.requires.made in
    let n = rw c.as_slice.ensures.value at c.next_number-number.ensures in
    let last = rw c.as_slice-2.ensures.value at c.last_of-last.ensures in
    rw (
      c.push_reserved.ensures.items,
      c.lead_back.ensures.links,
      c.lead_on.ensures.links,
      c.lead_back.ensures.ends,
      c.lead_on.ensures.ends,
      last,
      n,
    )
    (linked_longer c.self.inside.links.items c.self.inside.ends.items c.args.list c.self.invariant made)

pub returns : goal.returns
returns c =
    let room : vec_capacity c.self.inside.links - (vec_len c.self.inside.links + 1) ≡ vec_capacity c.self.inside.links
    - vec_len c.self.inside.links - 1 = omega arith in
    rw (
      ← c.self.view_is,
      c.push_reserved.ensures.items,
      c.push_reserved.ensures.capacity,
      c.push_reserved.ensures.len,
      c.lead_back.ensures.links,
      c.lead_back.ensures.links_len,
      c.lead_back.ensures.links_capacity,
      c.lead_on.ensures.links,
      c.lead_on.ensures.links_len,
      c.lead_on.ensures.links_capacity,
      c.lead_back.ensures.ends_len,
      c.lead_on.ensures.ends_len,
      room,
      map-append,
      marks_on,
    ) refl
