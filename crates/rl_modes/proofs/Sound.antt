-- What the modes of a loop keep, by their common modes and their holdings.
use Rattle.std.proofs.Common.{◌≡◌, ℕ, zero, suc, ◌+◌, ◌<◌, ◌≤◌, true, false, not, eqb, ltb, List, [], ◌∷◌, length, get_or, map, refl, sym, ap, ◌∙◌, ⊎_elim, arith}
use Rattle.std.specs.List.{insert, filter, list_any, AllPairs}
use Rattle.std.specs.List.Sorted.{IsPartitionedBy}
use Rattle.std.proofs.lemmas.Bool.{cases_Bool, cases_eq, cases_lt, ltb-true, ltb-false, lt-ltb, eq-eqb, ne_eqb, both_ways}
use Rattle.std.proofs.lemmas.List.{get_or-map, get_or_default, length-map}
use Rattle.std.proofs.lemmas.List.Folds.{list_any_at}
use Rattle.cf_ids.specs.declared.numbers.Item.{Item}
use Rattle.rl_base.specs.declared.places.Place.{Place}
use Rattle.rl_base.specs.declared.places.Place.TheVariants.{Common, Mode}
use Rattle.rl_base.specs.Modes.{rank, places, places_entered, items_gained}
use Rattle.rl_modes.specs.Loops.{Holding, is_of, holds_at, is_among, with_these, in_each, each_in, without, with_mode}
use Rattle.rl_modes.specs.Fields.{Held, IsCut, entered, with_new}
use Rattle.rl_modes.proofs.Cuts.{any_none, cut_tail, length-filter-le}
use Rattle.rl_modes.proofs.Orders.{all_pairs_insert}
use Rattle.rl_modes.proofs.News.{enters_each, each_enters, length-with_these, without_held}

-- ---- modes in order

pub modes_parted : (m : ℕ) (modes : List ℕ) → AllPairs (λ a b. a < b) modes → IsPartitionedBy (λ n. ltb n m) modes
modes_parted m modes rising i j d le lt low =
    ⊎_elim (λ same. rw same low) (λ other. let up = rising i j d (omega arith) lt in lt-ltb _ _
    (omega (arith, ltb-true _ _ low))) (cases_eq i j)

module _ (m : ℕ) (modes : List ℕ) (k : ℕ) (rising : AllPairs (λ a b. a < b) modes) (cut : IsCut (λ n. ltb n m) modes k) where
  among_none : ((d : ℕ) → k < length modes → eqb (get_or modes k d) m ≡ false) → is_among m modes ≡ false
  among_none here = any_none (λ n. eqb n m) modes (λ j d lt.
      ⊎_elim (λ e. rw e (here d (omega arith)))
      (λ ne. ⊎_elim
      (λ below. let low = ltb-true _ _ (cut.front j d below) in ne_eqb _ _ (λ g. absurd (omega arith)))
      (λ above. let up = rising k j d (omega arith) lt in let high = ltb-false _ _
      (cut.rest k d (omega arith) (omega arith)) in ne_eqb _ _ (λ g. absurd (omega arith)))
      (cases_lt j k))
      (cases_eq j k))

  pub among_at : (d : ℕ) → k < length modes → eqb (get_or modes k d) m ≡ is_among m modes
  among_at d lt =
      ⊎_elim
      (λ t. t ∙ sym (list_any_at (λ n. eqb n m) modes k d lt t))
      (λ f. f ∙ sym (among_none (λ e below. rw (get_or_default modes k e d lt) f)))
      (cases_Bool (eqb (get_or modes k d) m))

  pub among_past : length modes ≤ k → is_among m modes ≡ false
  among_past past = among_none (λ d lt. absurd (omega arith))

pub with_mode-insert : (m : ℕ) (modes : List ℕ) (k : ℕ) → IsCut (λ n. ltb n m) modes k
    → with_mode m modes ≡ insert modes k m
with_mode-insert m [] zero cut = refl
with_mode-insert m [] (suc k) cut = absurd (omega (arith, cut.within))
with_mode-insert m (n ∷ ns) zero cut = let t : ltb n m ≡ false = cut.rest 0 n (omega arith) (omega arith) in rw t refl
with_mode-insert m (n ∷ ns) (suc k) cut =
    let t : ltb n m ≡ true = cut.front 0 n (omega arith) in
    rw t (ap (λ r. n ∷ r) (with_mode-insert m ns k (cut_tail (λ n. ltb n m) n ns k cut)))

module _ (m : ℕ) (further : List ℕ) (k : ℕ) (rising : AllPairs (λ a b. a < b) (0 ∷ further)) (cut : IsCut (λ n. ltb n m) further k) (new : is_among m (0 ∷ further) ≡ false) where
  not_first : 0 < m
  not_first = ⊎_elim (λ e. absurd (both_ways _ new (rw (← e) refl))) (λ ne. omega arith) (cases_eq 0 m)

  pub mode_put : with_mode m (0 ∷ further) ≡ 0 ∷ insert further k m
  mode_put = let t : ltb 0 m ≡ true = lt-ltb _ _ not_first in rw t (ap (λ r. 0 ∷ r) (with_mode-insert m further k cut))

  pub rising_put : AllPairs (λ a b. a < b) (0 ∷ insert further k m)
  rising_put = all_pairs_insert (λ a b. a < b) (0 ∷ further) (suc k) m (omega (arith, cut.within)) rising front rest
    where
      front : (j : ℕ) (d : ℕ) → j < suc k → get_or (0 ∷ further) j d < m
      front zero d lt = not_first
      front (suc j) d lt = ltb-true _ _ (cut.front j d (omega arith))

      rest : (j : ℕ) (d : ℕ) → suc k ≤ j → j < length (0 ∷ further) → m < get_or (0 ∷ further) j d
      rest zero d ge lt = absurd (omega arith)
      rest (suc j) d ge lt =
          let high : m ≤ get_or further j d = ltb-false _ _ (cut.rest j d (omega arith) (omega arith)) in
          ⊎_elim (λ e. absurd (both_ways _ new (list_any_at (λ n. eqb n m) (0 ∷ further) (suc j) d lt
          (eq-eqb _ _ e)))) (λ ne. omega arith) (cases_eq (get_or further j d) m)

-- ---- common places rise

pub places_up : (modes : List ℕ) → AllPairs (λ a b. a < b) modes → AllPairs (λ p q. rank p < rank q) (places modes)
places_up modes rising zero zero d lt below = absurd (omega arith)
places_up modes rising (suc i) zero d lt below = absurd (omega arith)
places_up modes rising zero (suc j) d lt below = rw (get_or-map Mode modes j 0 d
    (omega (arith, length-map modes Mode))) (omega arith)
places_up modes rising (suc i) (suc j) d lt below =
    let short : j < length modes = omega (arith, length-map modes Mode) in
    rw (get_or-map Mode modes i 0 d (omega arith), get_or-map Mode modes j 0 d short)
    (omega (arith, rising i j 0 (omega arith) short))

-- ---- common items

pub entered_all : (i : Item) (further : List ℕ) (old first second new : Held) → AllPairs (λ a b. a < b) (0 ∷ further)
    → first ≡ record old { held = entered (record { place = Common; item = i }) old.held } → second ≡ record first
    { held = entered (record { place = Mode 0; item = i }) first.held } → new ≡ record second
    { held = with_new (in_each i (map Mode further)) second.held } → new ≡ record old
    { held = with_these (in_each i (places_entered (holds_at old.held i.id) (0 ∷ further))) old.held }
entered_all i further old first second new rising one two three =
    three ∙ (ap {A = Held} (λ h. record h { held = with_new (in_each i (map Mode further)) h.held })
    (two ∙ ap {A = Held} (λ h. record h { held = entered (record { place = Mode 0; item = i }) h.held }) one)
    ∙ ap {A = List Holding} (λ hs. record old { held = hs }) (enters_each i (places (0 ∷ further)) old.held
    (places_up (0 ∷ further) rising)))

pub entered_count : (i : Item) (further : List ℕ) (old new : Held) → new ≡ record old
    { held = with_these (in_each i (places_entered (holds_at old.held i.id) (0 ∷ further))) old.held } → length
    new.held ≡ length old.held + length (places_entered (holds_at old.held i.id) (0 ∷ further))
entered_count i further old new is =
    let put : Place → Holding = λ p. record { place = p; item = i } in
    rw is (omega (
      arith,
      length-with_these (in_each i (places_entered (holds_at old.held i.id) (0 ∷ further)))
          old.held,
      length-map (places_entered (holds_at old.held i.id) (0 ∷ further)) put,
    ))

pub entered_most : (i : Item) (further : List ℕ) (held : List Holding)
    → length (places_entered (holds_at held i.id) (0 ∷ further)) ≤ 2 + length further
entered_most i further held = omega (
  arith,
  length-filter-le (λ p. not (holds_at held i.id p)) (places (0 ∷ further)),
  length-map further Mode,
)

pub gained_count : (m : ℕ) (old new : Held) (is : List Item) → new ≡ record old
    { held = with_new (each_in (Mode m) is) old.held } → AllPairs (λ a b. a.id < b.id) is
    → (new ≡ record old {
      held = with_these (each_in (Mode m) (items_gained (λ i. holds_at old.held i.id (Mode m))
          is)) old.held;
    }) × (length new.held ≡ length old.held + length (items_gained
    (λ i. holds_at old.held i.id (Mode m)) is)) × (length (items_gained (λ i. holds_at old.held i.id (Mode m)) is)
    ≤ length is)
gained_count m old new is step rises =
    let put : Item → Holding = λ i. record { place = Mode m; item = i } in
    let same = each_enters (Mode m) is old.held rises in
    let now : new ≡ record old {
      held = with_these (each_in (Mode m) (items_gained
          (λ i. holds_at old.held i.id (Mode m)) is)) old.held;
    } = step ∙ ap {A = List Holding}
    (λ hs. record old { held = hs }) same in (
      now,
      rw now (omega (
        arith,
        length-with_these (each_in (Mode m) (items_gained (λ i. holds_at old.held i.id (Mode m))
            is)) old.held,
        length-map (items_gained (λ i. holds_at old.held i.id (Mode m)) is) put,
      )),
      length-filter-le (λ i. not (holds_at old.held i.id (Mode m))) is,
    )

without-cons : (i : ℕ) (p : Place) (ps : List Place) (held : List Holding)
    → without i ps (without i (p ∷ []) held) ≡ without i (p ∷ ps) held
without-cons i p ps [] = refl
without-cons i p ps (h ∷ hs) =
    ⊎_elim
    (λ t. rw t (without-cons i p ps hs))
    (λ f. rw f (⊎_elim (λ t. rw t (without-cons i p ps hs)) (λ g. rw g (ap (λ rest. h ∷ rest)
    (without-cons i p ps hs))) (cases_Bool (list_any (λ q. is_of i q h) ps))))
    (cases_Bool (is_of i p h))

pub left_all : (i : ℕ) (further : List ℕ) (old first second new : Held) → first ≡ record old
    { held = without i (Common ∷ []) old.held } → second ≡ record first { held = without i (Mode 0 ∷ []) first.held }
    → new ≡ record second { held = without i (map Mode further) second.held } → new ≡ record old
    { held = without i (filter (holds_at old.held i) (places (0 ∷ further))) old.held }
left_all i further old first second new one two three =
    three ∙ (ap {A = Held} (λ h. record h { held = without i (map Mode further) h.held })
    (two ∙ ap {A = Held} (λ h. record h { held = without i (Mode 0 ∷ []) h.held }) one)
    ∙ ap {A = List Holding} (λ hs. record old { held = hs }) (without-cons i (Mode 0) (map Mode further)
    (without i (Common ∷ []) old.held) ∙ (without-cons i Common (Mode 0 ∷ map Mode further) old.held ∙ without_held
    i (places (0 ∷ further)) old.held)))
