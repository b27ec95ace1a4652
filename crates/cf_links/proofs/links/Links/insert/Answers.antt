-- Answers to the goals of `links::Links::insert`.
use Rattle.std.proofs.Common.{◌≡◌, Some, map, sym}
use Rattle.cf_links.specs.Lists.{list_of, next_of, prev_of}
use Rattle.cf_links.specs.Fields.{lists_of}
use Rattle.cf_links.specs.Sides.{put_beside}
use Rattle.cf_links.proofs.FieldLemmas.{Edited, can_insert, kept_from, insert_seen}
use Rattle.cf_links.proofs.links.Links.insert.Given.{Over}
use Rattle.cf_links.proofs.links.Links.insert.Goals as goal

pub put-requires : goal.put-requires
put-requires g c =
    let linked : list_of (lists_of c.self.inside.nodes c.self.inside.ends.items) c.args.at ≡ Some c.in-Some.list =
    rw (← c.self.view_is) at (sym c.in-Some.ensures.list) in
    let back : c.prev.result ≡ prev_of (lists_of c.self.inside.nodes c.self.inside.ends.items) c.args.at =
    rw (← c.self.view_is) at c.prev.ensures.node in
    let onwards : c.next.result ≡ next_of (lists_of c.self.inside.nodes c.self.inside.ends.items) c.args.at =
    rw (← c.self.view_is) at c.next.ensures.node in
    rw (c.gap_beside-gap.ensures, back, onwards, c.as_mut_slice.ensures.value)
    (can_insert c.args.side c.self.inside.nodes c.self.inside.ends.items c.in-Some.list c.args.at c.args.n
    c.self.invariant
    (rw (← c.self.view_is) at c.requires.there) (rw (← c.self.view_is) at c.requires.loose) linked)

done : (g : Over) (c : goal.After-self-1 g)
    → Edited c.self.inside.nodes c.self.inside.ends c.put.new.nodes c.put.new.ends
    (map (put_beside c.args.side c.args.at c.args.n) (lists_of c.self.inside.nodes c.self.inside.ends.items))
done g c =
    let linked : list_of (lists_of c.self.inside.nodes c.self.inside.ends.items) c.args.at ≡ Some c.in-Some.list =
    rw (← c.self.view_is) at (sym c.in-Some.ensures.list) in
    let back : c.prev.result ≡ prev_of (lists_of c.self.inside.nodes c.self.inside.ends.items) c.args.at =
    rw (← c.self.view_is) at c.prev.ensures.node in
    let onwards : c.next.result ≡ next_of (lists_of c.self.inside.nodes c.self.inside.ends.items) c.args.at =
    rw (← c.self.view_is) at c.next.ensures.node in
    insert_seen c.args.side c.self.inside.nodes c.self.inside.ends c.put.new.nodes c.put.new.ends c.in-Some.list
    c.args.at
    c.args.n
    (kept_from c.self.inside.nodes c.self.inside.ends c.put.new.nodes c.put.new.ends c.as_mut_slice.result.now
    c.self.invariant
    c.as_mut_slice.ensures.value c.as_mut_slice.ensures.len c.put.ensures.count c.put.ensures.same)
    linked (rw (← c.self.view_is) at c.requires.loose)
    (rw (c.as_mut_slice.ensures.value, c.gap_beside-gap.ensures, back, onwards) at c.put.ensures.puts)

pub invariant_of-self : goal.invariant_of-self
invariant_of-self g c = (done g c).sound

pub returns-in-Some : goal.returns-in-Some
returns-in-Some g c = rw (← c.self.view_is) (record { inserted = (done g c).shows })
