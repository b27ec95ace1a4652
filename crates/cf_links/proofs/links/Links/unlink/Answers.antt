-- Answers to the goals of `links::Links::unlink`.
use Rattle.std.proofs.Common.{◌≡◌, Some, map, sym}
use Rattle.cf_links.specs.Lists.{list_of, next_of, prev_of, without}
use Rattle.cf_links.specs.Fields.{lists_of}
use Rattle.cf_links.proofs.FieldLemmas.{Edited, can_remove, kept_from, unlink_seen}
use Rattle.cf_links.proofs.links.Links.unlink.Given.{Over}
use Rattle.cf_links.proofs.links.Links.unlink.Goals as goal

pub remove-requires : goal.remove-requires
remove-requires g c =
    let linked : list_of (lists_of c.self.inside.nodes c.self.inside.ends.items) c.args.n ≡ Some c.in-Some.list =
    rw (← c.self.view_is) at (sym c.in-Some.ensures.list) in
    let back : c.prev.result ≡ prev_of (lists_of c.self.inside.nodes c.self.inside.ends.items) c.args.n =
    rw (← c.self.view_is) at c.prev.ensures.node in
    let onwards : c.next.result ≡ next_of (lists_of c.self.inside.nodes c.self.inside.ends.items) c.args.n =
    rw (← c.self.view_is) at c.next.ensures.node in
    rw (back, onwards, c.as_mut_slice.ensures.value)
    (can_remove c.self.inside.nodes c.self.inside.ends.items c.in-Some.list c.args.n c.self.invariant linked)

done : (g : Over) (c : goal.After-self-1 g)
    → Edited c.self.inside.nodes c.self.inside.ends c.remove.new.nodes c.remove.new.ends
    (map (without c.args.n) (lists_of c.self.inside.nodes c.self.inside.ends.items))
done g c =
    let linked : list_of (lists_of c.self.inside.nodes c.self.inside.ends.items) c.args.n ≡ Some c.in-Some.list =
    rw (← c.self.view_is) at (sym c.in-Some.ensures.list) in
    let back : c.prev.result ≡ prev_of (lists_of c.self.inside.nodes c.self.inside.ends.items) c.args.n =
    rw (← c.self.view_is) at c.prev.ensures.node in
    let onwards : c.next.result ≡ next_of (lists_of c.self.inside.nodes c.self.inside.ends.items) c.args.n =
    rw (← c.self.view_is) at c.next.ensures.node in
    unlink_seen c.self.inside.nodes c.self.inside.ends c.remove.new.nodes c.remove.new.ends c.in-Some.list c.args.n
    (kept_from c.self.inside.nodes c.self.inside.ends c.remove.new.nodes c.remove.new.ends c.as_mut_slice.result.now
    c.self.invariant
    c.as_mut_slice.ensures.value c.as_mut_slice.ensures.len c.remove.ensures.count c.remove.ensures.same)
    linked (rw (c.as_mut_slice.ensures.value, back, onwards) at c.remove.ensures.removes)

pub invariant_of-self : goal.invariant_of-self
invariant_of-self g c = (done g c).sound

pub returns-in-Some : goal.returns-in-Some
returns-in-Some g c = rw (← c.self.view_is) (record { unlinked = (done g c).shows })
