-- Places and items side by side, as holdings.
use Rattle.std.proofs.Common.{◌≡◌, ℕ, zero, suc, ◌+◌, ◌-◌, ◌<◌, ◌≤◌, true, false, eqb, ltb, List, [], ◌∷◌, length, get_or, refl, sym, ap, ◌∙◌, ⊎_elim, arith}
use Rattle.std.specs.List.{insert, remove, between, AllPairs}
use Rattle.std.specs.List.Sorted.{IsPartitionedBy}
use Rattle.std.proofs.lemmas.Bool.{ltb-true, lt-ltb, ltb-false, eq-eqb, ne_eqb, or_left, cases_lt, cases_eq}
use Rattle.std.proofs.lemmas.List.Edits.{get_or-between, length-between}
use Rattle.cf_ids.specs.declared.numbers.Item.{Item}
use Rattle.cf_ids.specs.declared.numbers.ItemKind.TheVariants.{Source}
use Rattle.rl_base.specs.declared.places.Place.{Place}
use Rattle.rl_base.specs.Modes.{rank}
use Rattle.rl_modes.specs.Loops.{Holding, items_at, stands_before}
use Rattle.rl_modes.specs.Fields.{IsCut, IsRange, IsOrdered, paired}
use Rattle.rl_modes.proofs.Cuts.{cut_tail, cut_none}
use Rattle.rl_modes.proofs.Orders.{above_by_first, above_by_second, below_by_second}

abbrev holding : Place → Item → Holding
holding p i = record { place = p; item = i }

pub length-paired : (ps : List Place) (is : List Item) → length ps ≡ length is → length (paired ps is) ≡ length is
length-paired [] [] e = refl
length-paired [] (i ∷ is) e = absurd (omega (arith, e))
length-paired (p ∷ ps) [] e = absurd (omega (arith, e))
length-paired (p ∷ ps) (i ∷ is) e = let rest : length (paired ps is) ≡ length is = length-paired ps is
    (omega (arith, e)) in omega arith

pub get_or-paired : (ps : List Place) (is : List Item) (j : ℕ) (d : Holding) → length ps ≡ length is → j < length is
    → get_or (paired ps is) j d ≡ holding (get_or ps j d.place) (get_or is j d.item)
get_or-paired [] [] j d e lt = absurd (omega (arith, lt))
get_or-paired [] (i ∷ is) j d e lt = absurd (omega (arith, e))
get_or-paired (p ∷ ps) [] j d e lt = absurd (omega (arith, e))
get_or-paired (p ∷ ps) (i ∷ is) zero d e lt = refl
get_or-paired (p ∷ ps) (i ∷ is) (suc j) d e lt = get_or-paired ps is j d (omega (arith, e)) (omega (arith, lt))

pub paired_insert : (ps : List Place) (is : List Item) (k : ℕ) (p : Place) (i : Item) → length ps ≡ length is
    → k ≤ length is → paired (insert ps k p) (insert is k i) ≡ insert (paired ps is) k (holding p i)
paired_insert [] [] zero p i e le = refl
paired_insert [] [] (suc k) p i e le = absurd (omega (arith, le))
paired_insert [] (i' ∷ is) k p i e le = absurd (omega (arith, e))
paired_insert (p' ∷ ps) [] k p i e le = absurd (omega (arith, e))
paired_insert (p' ∷ ps) (i' ∷ is) zero p i e le = refl
paired_insert (p' ∷ ps) (i' ∷ is) (suc k) p i e le = ap (λ hs. holding p' i' ∷ hs)
    (paired_insert ps is k p i (omega (arith, e)) (omega (arith, le)))

pub paired_remove : (ps : List Place) (is : List Item) (k : ℕ) → length ps ≡ length is
    → paired (remove ps k) (remove is k) ≡ remove (paired ps is) k
paired_remove [] [] zero e = refl
paired_remove [] [] (suc k) e = refl
paired_remove [] (i ∷ is) k e = absurd (omega (arith, e))
paired_remove (p ∷ ps) [] k e = absurd (omega (arith, e))
paired_remove (p ∷ ps) (i ∷ is) zero e = refl
paired_remove (p ∷ ps) (i ∷ is) (suc k) e = ap (λ hs. holding p i ∷ hs) (paired_remove ps is k (omega (arith, e)))

-- ---- ranges of places

pub range_up : (r : ℕ) (ps : List Place) (start end : ℕ) → IsRange r ps start end → start ≤ end
range_up r [] start end ranged = omega (arith, ranged.from.within)
range_up r (p ∷ ps) start end ranged =
    ⊎_elim
    (λ lt. absurd (omega (
      arith,
      ltb-false (rank (get_or (p ∷ ps) end p)) (r + 1)
          (ranged.to.rest end p (omega arith) (omega (arith, ranged.from.within))),
      ltb-true
          (rank (get_or (p ∷ ps) end p)) r (ranged.from.front end p lt),
    )))
    (λ le. le)
    (cases_lt end start)

-- the items of a place stand in its range
pub items_between : (q : Place) (ps : List Place) (is : List Item) (start end : ℕ) → length ps ≡ length is
    → IsRange (rank q) ps start end → between start end is ≡ items_at q (paired ps is)
items_between q [] [] start end e ranged =
    let none : start ≡ 0 = omega (arith, ranged.from.within) in
    let no_end : end ≡ 0 = omega (arith, ranged.to.within) in
    rw (none, no_end) refl
items_between q [] (i ∷ is) start end e ranged = absurd (omega (arith, e))
items_between q (p ∷ ps) [] start end e ranged = absurd (omega (arith, e))
items_between q (p ∷ ps) (i ∷ is) (suc start) zero e ranged =
    absurd (omega (arith, range_up (rank q) (p ∷ ps) (suc start) zero ranged))
items_between q (p ∷ ps) (i ∷ is) (suc start) (suc end) e ranged =
    let low : rank p < rank q = ltb-true _ _ (ranged.from.front 0 p (omega arith)) in
    let other : eqb (rank p) (rank q) ≡ false = ne_eqb _ _ (λ h. absurd (omega arith)) in
    let count : suc end - suc start ≡ end - start = omega arith in
    rw (other, count) (items_between q ps is start end (omega (arith, e)) (record {
      from = cut_tail _ p ps start ranged.from;
      to = cut_tail _ p ps end ranged.to;
    }))
items_between q (p ∷ ps) (i ∷ is) zero (suc end) e ranged =
    let high : rank q ≤ rank p = ltb-false _ _ (ranged.from.rest 0 p (omega arith) (omega arith)) in
    let low : rank p < rank q + 1 = ltb-true _ _ (ranged.to.front 0 p (omega arith)) in
    let here : eqb (rank p) (rank q) ≡ true = eq-eqb _ _ (omega arith) in
    let count : suc end - 0 ≡ suc (end - 0) = omega arith in
    rw (here, count) (ap (λ js. i ∷ js) (items_between q ps is zero end (omega (arith, e)) (record {
      from = cut_none _ p ps ranged.from;
      to = cut_tail _ p ps end ranged.to;
    })))
items_between q (p ∷ ps) (i ∷ is) zero zero e ranged =
    let high : rank q + 1 ≤ rank p = ltb-false _ _ (ranged.to.rest 0 p (omega arith) (omega arith)) in
    let other : eqb (rank p) (rank q) ≡ false = ne_eqb _ _ (λ h. absurd (omega arith)) in
    rw other (items_between q ps is zero zero (omega (arith, e)) (record {
      from = cut_none _ p ps ranged.from;
      to = cut_none _ p ps ranged.to;
    }))

-- ---- what the order lets a search find

any_item : Item
any_item = record { id = 0; kind = Source }

-- an order of holdings is one of places
places_rise : (ps : List Place) (is : List Item) → length ps ≡ length is → IsOrdered (paired ps is)
    → (i j : ℕ) (d : Place) → i ≤ j → j < length ps → rank (get_or ps i d) ≤ rank (get_or ps j d)
places_rise ps is e ordered i j d le lt =
    ⊎_elim
    (λ same. rw same (omega arith))
    (λ other. let long = length-paired ps is e in
    let ahead = ordered.in_order i j (holding d any_item) (omega arith) (omega arith) in
    (rw (
      get_or-paired ps is i (holding d any_item) e (omega arith),
      get_or-paired ps is j (holding d any_item) e
          (omega arith),
    ) at ahead.firsts))
    (cases_eq i j)

pub places_parted : (ps : List Place) (is : List Item) → length ps ≡ length is → IsOrdered (paired ps is)
    → (least : ℕ) → IsPartitionedBy (λ p. ltb (rank p) least) ps
places_parted ps is e ordered least i j d le lt low =
    lt-ltb _ _ (omega (arith, places_rise ps is e ordered i j d le lt, ltb-true _ _ low))

module _ (q : Place) (ps : List Place) (is : List Item) (start end : ℕ) (e : length ps ≡ length is) (ranged : IsRange (rank q) ps start end) where
  rank_in : (j : ℕ) (d : Place) → start ≤ j → j < end → rank (get_or ps j d) ≡ rank q
  rank_in j d from to =
      omega (
        arith,
        ltb-true _ _ (ranged.to.front j d to),
        ltb-false _ _ (ranged.from.rest j d from
            (omega (arith, ranged.to.within))),
      )

  item_in : (k : ℕ) (d : Item) → start + k < end → get_or (between start end is) k d ≡ get_or is (start + k) d
  item_in k d below = get_or-between is start end k d below

  long : length (between start end is) ≡ end - start
  long = length-between is start end (omega (arith, ranged.to.within))

  -- within one place items rise
  pub items_rise : IsOrdered (paired ps is) → AllPairs (λ a b. a.id < b.id) (between start end is)
  items_rise ordered i j d lt below =
      let jn : start + j < end = omega (arith, long) in
      let ins : start + i < start + j = omega arith in
      let n : length (paired ps is) ≡ length is = length-paired ps is e in
      let d' = holding (get_or ps 0 q) d in
      let ahead = ordered.in_order (start + i) (start + j) d' ins (omega (arith, ranged.to.within)) in
      let ranks : rank (get_or ps (start + i) d'.place) ≡ rank (get_or ps (start + j) d'.place) = rank_in (start + i)
      d'.place (omega arith) (omega arith) ∙ sym (rank_in (start + j) d'.place (omega arith) jn) in
      let ids : (get_or is (start + i) d).id < (get_or is (start + j) d).id =
      (rw (
        get_or-paired ps is (start + i) d' e (omega (arith, ranged.to.within)),
        get_or-paired ps is (start + j)
            d' e (omega (arith, ranged.to.within)),
      ) at ahead.seconds) ranks in
      rw (item_in i d (omega arith), item_in j d jn) ids

  pub items_parted : IsOrdered (paired ps is) → (least : ℕ)
      → IsPartitionedBy (λ i. ltb i.id least) (between start end is)
  items_parted ordered least i j d le lt low =
      ⊎_elim
      (λ same. rw same low)
      (λ other. let rises = items_rise ordered i j d (omega arith) lt in lt-ltb _ _ (omega (arith, ltb-true _ _ low)))
      (cases_eq i j)

  -- so a search in the range of a place finds where a holding stands
  pub cut_within : (n at : ℕ) → IsCut (λ i. ltb i.id n) (between start end is) at
      → IsCut (stands_before n q) (paired ps is) (start + at)
  cut_within n at cut = record {
    within = omega (
      arith,
      length-paired ps is e,
      long,
      cut.within,
      ranged.to.within,
      range_up (rank q) ps start end
          ranged,
    );
    front = λ j d below.
        let fits : j < length is = omega (
          arith,
          long,
          cut.within,
          ranged.to.within,
          range_up (rank q) ps start end
              ranged,
        ) in
        rw (get_or-paired ps is j d e fits) (⊎_elim
        (λ lt. or_left _ _ (ranged.from.front j d.place lt))
        (λ ge. let k : start + (j - start) ≡ j = omega arith in
        let to : j < end = omega (arith, long, cut.within) in
        below_by_second (rank q) n (rank (get_or ps j d.place)) (get_or is j d.item).id (rank_in j d.place ge to)
        (rw k at (rw (item_in (j - start) d.item (omega arith)) at (cut.front (j - start) d.item (omega arith)))))
        (cases_lt j start));
    rest = λ j d from below.
        let fits : j < length is = omega (arith, length-paired ps is e) in
        rw (get_or-paired ps is j d e fits) (⊎_elim
        (λ lt. let k : start + (j - start) ≡ j = omega arith in
        above_by_second (rank q) n (rank (get_or ps j d.place)) (get_or is j d.item).id
        (rank_in j d.place (omega arith) lt) (rw k at (rw (item_in (j - start) d.item (omega arith)) at (cut.rest
        (j - start) d.item (omega arith) (omega (arith, long))))))
        (λ ge. let high : rank q + 1 ≤ rank (get_or ps j d.place) = ltb-false _ _
        (ranged.to.rest j d.place ge (omega arith)) in
        above_by_first (rank q) n (rank (get_or ps j d.place)) (get_or is j d.item).id (omega arith))
        (cases_lt j end));
  }
