-- Answers to the goals of `lists::Lists::remove`.
use Rattle.std.proofs.Common.{◌≡◌, ◌∙◌, sym, Some, length, ap, refl, arith}
use Rattle.cf_notify.specs.declared.lists.Link.{Link}
use Rattle.cf_notify.specs.Links.{link_at}
use Rattle.cf_notify.proofs.Steps.{marks_on, marks_back, marks_set, length_on}
use Rattle.cf_notify.proofs.Chains.{linked_shorter, prev_k, next_k, below_length}
use Rattle.cf_notify.proofs.lists.Lists.remove.Goals as goal

pub lead_on-requires-clause-made : goal.lead_on-requires-clause-made
lead_on-requires-clause-made c =
    let its : c.link_of-link.result ≡ link_at c.self.inside.links.items c.args.k =
    rw c.as_slice.ensures.value at c.link_of-link.ensures in
    let list : (link_at c.self.inside.links.items c.args.k).list ≡ Some c.in-Some.list = sym
    (ap {A = Link} (λ h. h.list) its) ∙ c.in-Some.is in
    c.self.invariant.made c.args.k c.in-Some.list list

pub lead_on-requires-clause-there : goal.lead_on-requires-clause-there
lead_on-requires-clause-there c x e =
    let its : c.link_of-link.result ≡ link_at c.self.inside.links.items c.args.k =
    rw c.as_slice.ensures.value at c.link_of-link.ensures in
    let list : (link_at c.self.inside.links.items c.args.k).list ≡ Some c.in-Some.list = sym
    (ap {A = Link} (λ h. h.list) its) ∙ c.in-Some.is in
    below_length c.self.inside.links.items c.in-Some.list x (prev_k c.self.inside.links.items c.self.inside.ends.items
    c.in-Some.list c.args.k c.self.invariant list (Some x) (sym (ap {A = Link} (λ h. h.prev) its) ∙ e)).1

pub lead_back-requires-clause-made : goal.lead_back-requires-clause-made
lead_back-requires-clause-made c =
    let its : c.link_of-link.result ≡ link_at c.self.inside.links.items c.args.k =
    rw c.as_slice.ensures.value at c.link_of-link.ensures in
    let list : (link_at c.self.inside.links.items c.args.k).list ≡ Some c.in-Some.list = sym
    (ap {A = Link} (λ h. h.list) its) ∙ c.in-Some.is in
    rw c.lead_on.ensures.ends_len (c.self.invariant.made c.args.k c.in-Some.list list)

pub lead_back-requires-clause-there : goal.lead_back-requires-clause-there
lead_back-requires-clause-there c x e =
    let its : c.link_of-link.result ≡ link_at c.self.inside.links.items c.args.k =
    rw c.as_slice.ensures.value at c.link_of-link.ensures in
    let list : (link_at c.self.inside.links.items c.args.k).list ≡ Some c.in-Some.list = sym
    (ap {A = Link} (λ h. h.list) its) ∙ c.in-Some.is in
    let low = below_length c.self.inside.links.items c.in-Some.list x (next_k c.self.inside.links.items
    c.self.inside.ends.items c.in-Some.list c.args.k c.self.invariant list (Some x)
    (sym (ap {A = Link} (λ h. h.next) its) ∙ e)).1 in
    omega (
      arith,
      low,
      ap length c.lead_on.ensures.links,
      length_on c.link_of-link.result.prev
          c.link_of-link.result.next c.self.inside.links.items,
    )

pub invariant_of-self : goal.invariant_of-self
invariant_of-self c =
    let its : c.link_of-link.result ≡ link_at c.self.inside.links.items c.args.k =
    rw c.as_slice.ensures.value at c.link_of-link.ensures in
    let list : (link_at c.self.inside.links.items c.args.k).list ≡ Some c.in-Some.list = sym
    (ap {A = Link} (λ h. h.list) its) ∙ c.in-Some.is in
    rw (c.lead_back.ensures.links, c.lead_on.ensures.links, c.lead_back.ensures.ends, c.lead_on.ensures.ends, its)
    (linked_shorter c.self.inside.links.items c.self.inside.ends.items c.in-Some.list c.args.k c.self.invariant list)

pub returns-in-Some : goal.returns-in-Some
returns-in-Some c =
    let its : c.link_of-link.result ≡ link_at c.self.inside.links.items c.args.k =
    rw c.as_slice.ensures.value at c.link_of-link.ensures in
    let list : (link_at c.self.inside.links.items c.args.k).list ≡ Some c.in-Some.list = sym
    (ap {A = Link} (λ h. h.list) its) ∙ c.in-Some.is in
    rw (
      ← c.self.view_is,
      c.lead_back.ensures.links,
      c.lead_back.ensures.links_len,
      c.lead_back.ensures.links_capacity,
      c.lead_on.ensures.links,
      c.lead_on.ensures.links_len,
      c.lead_on.ensures.links_capacity,
      c.lead_back.ensures.ends_len,
      c.lead_on.ensures.ends_len,
      marks_set,
      marks_back,
      marks_on,
    ) refl
