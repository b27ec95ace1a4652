-- Answers to the goals of `index::Index::push`.
use Rattle.std.proofs.Common.{◌≡◌, ◌+◌, length, arith}
use Rattle.std.proofs.lemmas.List.{take_at}
use Rattle.cf_basichash.proofs.PlacesLemmas.{push_within}
use Rattle.cf_basichash.proofs.index.Index.push.Goals as goal

pub invariant_of-self : goal.invariant_of-self
invariant_of-self c =
    let same : length c.put.new.places ≡ c.self.inside.places.len = omega arith in
    let count : c.len.result ≡ length c.self.inside.places.items = omega arith in
    let number : c.len-number.result + 1 ≡ length c.self.inside.hashes.items + 1 = omega arith in
    rw (take_at c.put.new.places _ _ same)
    (push_within c.self.inside.hashes.items c.self.inside.places.items c.deref_mut.result.now c.put.new.places
    c.push_reserved.new.self.items c.self.inside.room _ _ c.len.result (c.len-number.result + 1) c.args.hash
    c.home-home.result c.self.invariant (rw (← c.self.view_is) at c.requires) c.deref_mut.ensures.value count
    c.home-home.ensures.home number c.put.ensures c.push_reserved.ensures.items c.push_reserved.ensures.capacity)
