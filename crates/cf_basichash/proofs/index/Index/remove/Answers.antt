-- Answers to the goals of `index::Index::remove`.
use Rattle.std.proofs.Common.{◌≡◌, length, ◌∙◌, arith}
use Rattle.std.proofs.lemmas.List.{take_at}
use Rattle.cf_basichash.proofs.ClosingLemmas.{remove_within}
use Rattle.cf_basichash.proofs.index.Index.remove.Goals as goal

pub invariant_of-self : goal.invariant_of-self
invariant_of-self c =
    let one : length c.close.new.places ≡ c.self.inside.places.len = omega arith in
    let two : length c.lower_all.new.places ≡ c.self.inside.places.len = omega arith in
    rw (take_at c.lower_all.new.places _ _ two)
    (remove_within c.self.inside.hashes.items c.self.inside.places.items c.deref.result.now c.deref-2.result.now
    c.deref_mut.result.now c.close.new.places c.deref_mut-2.result.now c.lower_all.new.places c.remove.new.self.items
    c.self.inside.room _ _ c.args.row c.home-home.result c.first-place.result c.self.invariant
    (rw (← c.self.view_is) at c.requires) c.deref.ensures.value c.deref-2.ensures.value c.deref_mut.ensures.value
    c.first-place.ensures c.close.ensures (c.deref_mut-2.ensures.value ∙ take_at c.close.new.places _ _ one)
    c.lower_all.ensures c.remove.ensures.items c.remove.ensures.capacity)
