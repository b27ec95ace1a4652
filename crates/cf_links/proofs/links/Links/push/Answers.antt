-- Answers to the goals of `links::Links::push`.
use Rattle.std.proofs.Common.{◌≡◌}
use Rattle.cf_links.specs.Fields.{lists_of}
use Rattle.cf_links.specs.Sides.{with_end}
use Rattle.cf_links.proofs.FieldLemmas.{Edited, can_push, kept_from, push_seen}
use Rattle.cf_links.proofs.links.Links.push.Given.{Over}
use Rattle.cf_links.proofs.links.Links.push.Goals as goal

pub put-requires : goal.put-requires
put-requires g c =
    let here : c.l.inside.0 ≡ c.args.l = c.l.view_is in
    rw (c.end_gap-gap.ensures, c.as_mut_slice.ensures.value)
    (can_push c.args.side c.self.inside.nodes c.self.inside.ends.items c.args.l c.args.n c.index.result.now
    c.self.invariant
    (rw (← c.self.view_is) at c.requires.there) (rw (← c.self.view_is) at c.requires.loose)
    (rw (← c.self.view_is) at c.requires.made) (rw here at c.index.ensures))

done : (g : Over) (c : goal.After-self-1 g)
    → Edited c.self.inside.nodes c.self.inside.ends c.put.new.nodes c.put.new.ends
    (with_end c.args.side (lists_of c.self.inside.nodes c.self.inside.ends.items) c.args.l c.args.n)
done g c =
    let here : c.l.inside.0 ≡ c.args.l = c.l.view_is in
    push_seen c.args.side c.self.inside.nodes c.self.inside.ends c.put.new.nodes c.put.new.ends c.args.l c.args.n
    c.index.result.now
    (kept_from c.self.inside.nodes c.self.inside.ends c.put.new.nodes c.put.new.ends c.as_mut_slice.result.now
    c.self.invariant
    c.as_mut_slice.ensures.value c.as_mut_slice.ensures.len c.put.ensures.count c.put.ensures.same)
    (rw (← c.self.view_is) at c.requires.made) (rw here at c.index.ensures) (rw (← c.self.view_is) at c.requires.loose)
    (rw (c.as_mut_slice.ensures.value, c.end_gap-gap.ensures) at c.put.ensures.puts)

pub invariant_of-self : goal.invariant_of-self
invariant_of-self g c = (done g c).sound

pub returns : goal.returns
returns g c = rw (← c.self.view_is) (record { pushed = (done g c).shows })
