-- Answers to the goals of `reach::mark_reached`.
use Rattle.std.proofs.Common.{◌≡◌, ℕ, List, length, subst, rules}
use Rattle.cf_graph.proofs.Closure.{IsWalk, walk-place, walk-more, walk-all}
use Rattle.cf_graph.proofs.reach.mark_reached.Goals as goal

pub follow-requires-clause-places : goal.follow-requires-clause-places
follow-requires-clause-places c =
    let Walks : List ℕ → Type 0 = λ s. IsWalk c.args.edges.now c.loop-place.walk.marks.items s in
    walk-place _ _ c.pop.new.self.items c.in-Some.place (subst Walks c.in-Some.ensures.items c.loop-place.invariant)

pub loop-place-preserved : goal.loop-place-preserved
loop-place-preserved c =
    let Walks : List ℕ → Type 0 = λ s. IsWalk c.args.edges.now c.loop-place.walk.marks.items s in
    walk-more _ _ _ c.pop.new.self.items _ c.in-Some.place (subst Walks c.in-Some.ensures.items c.loop-place.invariant)
    c.in_ok-follow.ensures.grows

pub returns-clause-found : goal.returns-clause-found
returns-clause-found c o =
    let empty : length c.loop-place.walk.stack.items ≡ 0 = search rules in
    walk-all _ _ c.loop-place.walk.stack.items o empty c.loop-place.invariant
