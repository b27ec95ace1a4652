-- The places of an item among holdings in order are those of all places that hold it.
use Rattle.std.proofs.Common.{◌≡◌, ℕ, zero, suc, ◌+◌, ◌<◌, ◌≤◌, Bool, true, false, eqb, List, [], ◌∷◌, map, refl, sym, ap, ◌∙◌, ⊎_elim, arith}
use Rattle.std.specs.List.{filter, list_any, AllPairs, All, range_with_len}
use Rattle.std.proofs.lemmas.Bool.{cases_Bool, cases_eq, eqb-true, eqb-false, ne_eqb, or_from}
use Rattle.std.proofs.lemmas.List.Elements.{All-tail, All-cons, All-nil, All-filter, All-map}
use Rattle.rl_base.specs.declared.places.Place.{Place}
use Rattle.rl_base.specs.declared.places.Place.TheVariants.{Common, Mode}
use Rattle.rl_base.specs.Modes.{rank, places, places_of, all_modes}
use Rattle.rl_modes.specs.Loops.{Holding, is_of, holds_at}
use Rattle.rl_modes.specs.Fields.{Precedes, IsOrdered, places_held}
use Rattle.rl_modes.proofs.Kept.{any_marked, and_turned}
use Rattle.cf_ids.specs.declared.limits.TheConstants.{MODES}

-- each place has a lower rank than those after it
abbrev IsRising : List Place → Type 0
IsRising [] = Unit {0}
IsRising (p ∷ ps) = All (λ q. rank p < rank q) ps × IsRising ps

abbrev is_in : List Place → Place → Bool
is_in xs p = list_any (λ q. eqb (rank q) (rank p)) xs

same_place : (p q : Place) → rank p ≡ rank q → p ≡ q
same_place Common Common e = refl
same_place Common (Mode m) e = absurd (omega (arith, e))
same_place (Mode m) Common e = absurd (omega (arith, e))
same_place (Mode m) (Mode n) e = let same : m ≡ n = omega (arith, e) in ap Mode same

not_below : (xs : List Place) (p : Place) → All (λ q. rank p < rank q) xs → is_in xs p ≡ false
not_below [] p above = refl
not_below (x ∷ xs) p above =
    let other : eqb (rank x) (rank p) ≡ false = ne_eqb _ _ (λ e. absurd (omega (arith, above 0 x))) in
    or_from _ _ other (not_below xs p (All-tail (λ q. rank p < rank q) x xs above))

module _ (holds : Place → Bool) where
  modes_from : (n a : ℕ) (xs : List Place) → IsRising xs → All (λ q. a < rank q) xs → All (λ q. rank q ≤ a + n) xs
      → ((p : Place) → a < rank p → holds p ≡ is_in xs p) → filter holds (map Mode (range_with_len a n)) ≡ xs
  modes_from zero a [] rises low high agree = refl
  modes_from zero a (x ∷ xs) rises low high agree =
      let above : a < rank x = low 0 x (omega arith) in
      let most : rank x ≤ a + 0 = high 0 x (omega arith) in
      absurd (omega arith)
  modes_from (suc n) a [] rises low high agree =
      let here : holds (Mode a) ≡ false = agree (Mode a) (omega arith) in
      rw here (modes_from n (a + 1) [] rises (All-nil _) (All-nil _) (λ p lt. agree p (omega arith)))
  modes_from (suc n) a (x ∷ xs) rises low high agree =
      ⊎_elim
      (λ t. let e : rank x ≡ rank (Mode a) = eqb-true _ _ t in
      let here : holds (Mode a) ≡ true = agree (Mode a) (omega arith) ∙ (rw t refl) in
      let first : x ≡ Mode a = same_place x (Mode a) e in
      rw here (rw first (ap (λ ps. Mode a ∷ ps) (modes_from n (a + 1) xs rises.1
      (λ j d lt. omega (arith, rises.0 j d lt))
      (λ j d lt. omega (arith, high (suc j) d (omega arith)))
      (λ p lt. agree p (omega arith) ∙ (let other : eqb (rank x) (rank p) ≡ false = ne_eqb _ _
      (λ g. absurd (omega arith)) in rw other refl))))))
      (λ f. let above : a + 1 < rank x = omega (arith, low 0 x, eqb-false _ _ f) in
      let all_above : All (λ q. a + 1 < rank q) (x ∷ xs) = All-cons (λ q. a + 1 < rank q) x xs above
      (λ j d lt. omega (arith, rises.0 j d lt)) in
      let here : holds (Mode a) ≡ false = agree (Mode a) (omega arith) ∙ not_below (x ∷ xs) (Mode a) all_above in
      rw here (modes_from n (a + 1) (x ∷ xs) rises all_above (λ j d lt. omega (arith, high j d lt))
      (λ p lt. agree p (omega arith))))
      (cases_Bool (eqb (rank x) (rank (Mode a))))

  places_from : (n : ℕ) (modes : List ℕ) (xs : List Place) → modes ≡ range_with_len 0 n → IsRising xs
      → All (λ q. rank q ≤ n) xs → ((p : Place) → holds p ≡ is_in xs p) → filter holds (places modes) ≡ xs
  places_from n modes [] all rises high agree = rw (agree Common, all) (modes_from n 0 [] rises (All-nil _)
      (All-nil _) (λ p lt. agree p))
  places_from n modes (x ∷ xs) all rises high agree =
      ⊎_elim
      (λ t. let e : rank x ≡ rank Common = eqb-true _ _ t in
      let here : holds Common ≡ true = agree Common ∙ (rw t refl) in
      let first : x ≡ Common = same_place x Common e in
      rw (here, all) (rw first (ap (λ ps. Common ∷ ps) (modes_from n 0 xs rises.1
      (λ j d lt. omega (arith, rises.0 j d lt))
      (λ j d lt. omega (arith, high (suc j) d (omega arith)))
      (λ p lt. agree p ∙ (let other : eqb (rank x) (rank p) ≡ false = ne_eqb _ _
      (λ g. absurd (omega arith)) in rw other refl))))))
      (λ f. let above : 0 < rank x = omega (arith, eqb-false _ _ f) in
      let all_above : All (λ q. 0 < rank q) (x ∷ xs) = All-cons (λ q. 0 < rank q) x xs above
      (λ j d lt. omega (arith, rises.0 j d lt)) in
      let here : holds Common ≡ false = agree Common ∙ not_below (x ∷ xs) Common all_above in
      rw (here, all) (modes_from n 0 (x ∷ xs) rises all_above (λ j d lt. omega (arith, high j d lt)) (λ p lt. agree p)))
      (cases_Bool (eqb (rank x) (rank Common)))

-- ---- the places of an item rise

above_first : (i : ℕ) (h : Holding) (hs : List Holding) → h.item.id ≡ i
    → All (λ x. Precedes (λ h. rank h.place) (λ h. h.item.id) h x) hs
    → All (λ q. rank h.place < rank q) (places_held i hs)
above_first i h [] e ahead = All-nil _
above_first i h (x ∷ xs) e ahead =
    ⊎_elim
    (λ t. let same : x.item.id ≡ i = eqb-true _ _ t in
    let first : Precedes (λ h. rank h.place) (λ h. h.item.id) h x = ahead 0 x (omega arith) in
    let apart : rank h.place < rank x.place = ⊎_elim (λ g. absurd (omega (arith, first.seconds g)))
    (λ ne. omega (arith, first.firsts)) (cases_eq (rank h.place) (rank x.place)) in
    rw t (All-cons (λ q. rank h.place < rank q) x.place (places_held i xs) apart
    (above_first i h xs e (λ j d lt. ahead (suc j) d (omega arith)))))
    (λ f. rw f (above_first i h xs e (λ j d lt. ahead (suc j) d (omega arith))))
    (cases_Bool (eqb x.item.id i))

held_rise : (i : ℕ) (held : List Holding) → AllPairs (Precedes (λ h. rank h.place) (λ h. h.item.id)) held
    → IsRising (places_held i held)
held_rise i [] pairs = tt
held_rise i (h ∷ hs) pairs =
    let rest = held_rise i hs (λ a b d lt below. pairs (suc a) (suc b) d (omega arith) (omega arith)) in
    ⊎_elim
    (λ t. rw t (above_first i h hs (eqb-true _ _ t) (λ j d lt. pairs 0 (suc j) d (omega arith) (omega arith)), rest))
    (λ f. rw f rest)
    (cases_Bool (eqb h.item.id i))

pub places_are : (i : ℕ) (held : List Holding) → IsOrdered held
    → places_held i held ≡ places_of (holds_at held i) all_modes
unfolding all_modes
places_are i held ordered =
    sym (places_from (holds_at held i) MODES all_modes (places_held i held) refl (held_rise i held ordered.in_order)
    (All-map (λ q. rank q ≤ MODES) (λ h. h.place) (filter (λ h. eqb h.item.id i) held)
    (All-filter (λ h. eqb h.item.id i) (λ h. rank h.place ≤ MODES) held ordered.below))
    (λ p. any_marked (λ h. h.item.id) (λ h. h.place) i (rank p) (is_of i p)
    (λ h. and_turned (eqb (rank h.place) (rank p)) (eqb h.item.id i)) held))
