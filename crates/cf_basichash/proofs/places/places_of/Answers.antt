-- Answers to the goals of `places::places_of`.
use Rattle.std.proofs.Common.{◌≡◌, ℕ, List, ◌+◌, length, subst, refl, arith}
use Rattle.std.proofs.lemmas.List.{take_at}
use Rattle.cf_basichash.specs.Places.{IsPut}
use Rattle.cf_basichash.proofs.PlacesLemmas.{all_zeros, so_far_none, so_far_more}
use Rattle.cf_basichash.proofs.places.places_of.Goals as goal

pub loop-row-init : goal.loop-row-init
loop-row-init c =
    so_far_none _ _ _ (all_zeros _ _ _ _ c.in_ok-resize.ensures.items c.new-places.ensures.items
    c.new-places.ensures.len)

pub loop-row-preserved : goal.loop-row-preserved
loop-row-preserved c =
    let same : length c.put.new.places ≡ c.loop-row.places.len = omega arith in
    let put : IsPut c.loop-row.places.items c.put.new.places c.home-home.result (c.loop-row.row + 1) =
    subst (λ (l : List ℕ). IsPut l c.put.new.places c.home-home.result (c.loop-row.row + 1)) c.deref_mut.ensures.value
    c.put.ensures in
    rw (take_at c.put.new.places _ _ same)
    (so_far_more _ _ _ _ _ c.home-home.result _ c.loop-row.invariant c.loop-row-test.true refl
    c.home-home.ensures.home put)
