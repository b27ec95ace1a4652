-- Holdings that get further ones, and that lose those of an item.
use Rattle.std.proofs.Common.{◌≡◌, ℕ, suc, ◌+◌, ◌<◌, ◌≤◌, Bool, true, false, not, cond, ◌||◌, eqb, List, [], ◌∷◌, ◌++◌, length, get_or, take, map, refl, sym, ap, ◌∙◌, ⊎_elim, arith}
use Rattle.std.specs.List.{filter, list_any, AllPairs, All}
use Rattle.std.proofs.lemmas.Bool.{cases_Bool, or_parts, or_from, or_right, or_left, and_right, ne_eqb, both_ways, false_from_ne_true}
use Rattle.std.proofs.lemmas.List.{take_more, map-append, length-map, length-take}
use Rattle.cf_ids.specs.declared.numbers.Item.{Item}
use Rattle.rl_base.specs.declared.places.Place.{Place}
use Rattle.rl_base.specs.declared.places.Place.TheVariants.{Mode}
use Rattle.rl_base.specs.Modes.{rank}
use Rattle.rl_modes.specs.Loops.{Holding, is_of, holds_at, items_at, stands_before, with_one, with_these, in_each, each_in, without}
use Rattle.rl_modes.specs.Fields.{Held, entered, with_new}

-- ---- lengths

pub length-with_one : (n : Holding) (held : List Holding) → length (with_one n held) ≡ length held + 1
length-with_one n [] = omega arith
length-with_one n (h ∷ hs) = elim (stands_before n.item.id n.place h) as (λ t. length
    (cond t (h ∷ with_one n hs) (n ∷ h ∷ hs)) ≡ length (h ∷ hs) + 1) [
      | true ↦ omega (arith, length-with_one n hs)
      | false ↦ omega arith
    ]

pub length-with_these : (ns held : List Holding) → length (with_these ns held) ≡ length held + length ns
length-with_these [] held = omega arith
length-with_these (n ∷ ns) held = omega (arith, length-with_these ns (with_one n held), length-with_one n held)

pub length-entered : (n : Holding) (held : List Holding) → length (entered n held) ≤ length held + 1
length-entered n held = elim (holds_at held n.item.id n.place) as (λ t. length (cond t held (with_one n held))
    ≤ length held + 1) [ true ↦ omega arith | false ↦ omega (arith, length-with_one n held) ]

pub length-with_new : (ns held : List Holding) → length (with_new ns held) ≤ length held + length ns
length-with_new [] held = omega arith
length-with_new (n ∷ ns) held = omega (arith, length-with_new ns (entered n held), length-entered n held)

-- ---- one after another

pub with_new-push : (ns : List Holding) (n : Holding) (held : List Holding)
    → with_new (ns ++ n ∷ []) held ≡ entered n (with_new ns held)
with_new-push [] n held = refl
with_new-push (m ∷ ns) n held = with_new-push ns n (entered m held)

-- ---- what is there after one more

pub holds-with_one : (i : ℕ) (p : Place) (n : Holding) (held : List Holding)
    → holds_at (with_one n held) i p ≡ (is_of i p n || holds_at held i p)
holds-with_one i p n [] = refl
holds-with_one i p n (h ∷ hs) =
    ⊎_elim
    (λ t. rw t (rw (holds-with_one i p n hs) (or_turned (is_of i p h) (is_of i p n) (holds_at hs i p))))
    (λ f. rw f refl)
    (cases_Bool (stands_before n.item.id n.place h))
  where
    or_turned : (a b c : Bool) → (a || (b || c)) ≡ (b || (a || c))
    or_turned true true c = refl
    or_turned true false c = refl
    or_turned false b c = refl

-- ---- holdings of different items or places

-- each is apart from those after it
pub data IsApart : List Holding → Type 0 where
  none : IsApart []
  more : (n : Holding) (ns : List Holding) → list_any (λ m. is_of m.item.id m.place n) ns ≡ false → IsApart ns
      → IsApart (n ∷ ns)

-- whether a holding's item is in its place
abbrev is_there : List Holding → Holding → Bool
is_there held n = holds_at held n.item.id n.place

same_news : (n : Holding) (held ns : List Holding) → list_any (λ m. is_of m.item.id m.place n) ns ≡ false
    → filter (λ m. not (is_there (with_one n held) m)) ns ≡ filter (λ m. not (is_there held m)) ns
same_news n held [] h = refl
same_news n held (m ∷ ms) h =
    let apart = or_parts (is_of m.item.id m.place n) (list_any (λ m. is_of m.item.id m.place n) ms) h in
    let same : is_there (with_one n held) m ≡ is_there held m = rw (holds-with_one m.item.id m.place n held, apart.0)
    refl in
    rw (same, same_news n held ms apart.1) refl

pub with_new-these : (ns held : List Holding) → IsApart ns
    → with_new ns held ≡ with_these (filter (λ n. not (is_there held n)) ns) held
with_new-these [] held apart = refl
with_new-these (n ∷ ns) held (more _ _ first rest) =
    ⊎_elim
    (λ t. rw t (with_new-these ns held rest))
    (λ f. rw f (with_new-these ns (with_one n held) rest ∙ ap (λ ms. with_these ms (with_one n held))
    (same_news n held ns first)))
    (cases_Bool (is_there held n))

apart_places : (i : Item) (ps : List Place) → AllPairs (λ p q. rank p < rank q) ps → IsApart (in_each i ps)
apart_places i [] rises = none
apart_places i (p ∷ ps) rises = more _ _ (none_same ps (λ j d lt. rises 0 (suc j) d (omega arith) (omega arith)))
    (apart_places i ps (λ a b d lt below. rises (suc a) (suc b) d (omega arith) (omega arith)))
  where
    none_same : (qs : List Place) → All (λ q. rank p < rank q) qs → list_any
        (λ m. is_of m.item.id m.place (record { place = p; item = i })) (in_each i qs) ≡ false
    none_same [] above = refl
    none_same (q ∷ qs) above =
        let other : eqb (rank p) (rank q) ≡ false = ne_eqb _ _ (λ e. absurd (omega (arith, above 0 q))) in
        rw other (none_same qs (λ j d lt. above (suc j) d (omega arith)))

apart_items : (p : Place) (is : List Item) → AllPairs (λ a b. a.id < b.id) is → IsApart (each_in p is)
apart_items p [] rises = none
apart_items p (i ∷ is) rises = more _ _ (none_same is (λ j d lt. rises 0 (suc j) d (omega arith) (omega arith)))
    (apart_items p is (λ a b d lt below. rises (suc a) (suc b) d (omega arith) (omega arith)))
  where
    none_same : (js : List Item) → All (λ j. i.id < j.id) js → list_any (λ m. is_of m.item.id m.place
        (record { place = p; item = i })) (each_in p js) ≡ false
    none_same [] above = refl
    none_same (j ∷ js) above =
        let other : eqb i.id j.id ≡ false = ne_eqb _ _ (λ e. absurd (omega (arith, above 0 j))) in
        or_from _ _ (and_right _ _ other) (none_same js (λ k d lt. above (suc k) d (omega arith)))

filter-map : {A B : Type 0} (t : B → Bool) (f : A → B) (xs : List A)
    → filter t (map f xs) ≡ map f (filter (λ x. t (f x)) xs)
filter-map t f [] = refl
filter-map t f (x ∷ xs) = ⊎_elim (λ h. rw h (ap (λ ys. f x ∷ ys) (filter-map t f xs))) (λ h. rw h (filter-map t f xs))
    (cases_Bool (t (f x)))

-- an item enters each of these places that does not hold it
pub enters_each : (i : Item) (ps : List Place) (held : List Holding) → AllPairs (λ p q. rank p < rank q) ps
    → with_new (in_each i ps) held ≡ with_these (in_each i (filter (λ p. not (holds_at held i.id p)) ps)) held
enters_each i ps held rises =
    with_new-these (in_each i ps) held (apart_places i ps rises)
    ∙ ap (λ ns. with_these ns held) (filter-map (λ n. not (is_there held n)) (λ p. record { place = p; item = i }) ps)

-- each of these items enters a place that does not hold it
pub each_enters : (p : Place) (is : List Item) (held : List Holding) → AllPairs (λ a b. a.id < b.id) is
    → with_new (each_in p is) held ≡ with_these (each_in p (filter (λ i. not (holds_at held i.id p)) is)) held
each_enters p is held rises =
    with_new-these (each_in p is) held (apart_items p is rises)
    ∙ ap (λ ns. with_these ns held) (filter-map (λ n. not (is_there held n)) (λ i. record { place = p; item = i }) is)

-- ---- other places keep their items

items_kept : (q : Place) (n : Holding) (held : List Holding) → eqb (rank n.place) (rank q) ≡ false
    → items_at q (with_one n held) ≡ items_at q held
items_kept q n [] other = rw other refl
items_kept q n (h ∷ hs) other =
    ⊎_elim
    (λ t. rw t (⊎_elim (λ e. rw e (ap (λ is. h.item ∷ is) (items_kept q n hs other)))
    (λ e. rw e (items_kept q n hs other)) (cases_Bool (eqb (rank h.place) (rank q)))))
    (λ f. rw f (rw other refl))
    (cases_Bool (stands_before n.item.id n.place h))

items_entered : (q : Place) (n : Holding) (held : List Holding) → eqb (rank n.place) (rank q) ≡ false
    → items_at q (entered n held) ≡ items_at q held
items_entered q n held other = ⊎_elim (λ t. rw t refl) (λ f. rw f (items_kept q n held other))
    (cases_Bool (is_there held n))

pub items_new : (q p : Place) (is : List Item) (held : List Holding) → eqb (rank p) (rank q) ≡ false
    → items_at q (with_new (each_in p is) held) ≡ items_at q held
items_new q p [] held other = refl
items_new q p (i ∷ is) held other =
    let n : Holding = record { place = p; item = i } in
    items_new q p is (entered n held) other ∙ items_entered q n held other

-- ---- without an item

pub without_none : (i : ℕ) (p : Place) (held : List Holding) → holds_at held i p ≡ false
    → without i (p ∷ []) held ≡ held
without_none i p [] h = refl
without_none i p (h ∷ hs) gone = let both = or_parts (is_of i p h) (holds_at hs i p) gone in rw both.0
    (ap (λ rest. h ∷ rest) (without_none i p hs both.1))

any_push : {A : Type 0} (t : A → Bool) (xs : List A) (x : A)
    → list_any t (xs ++ x ∷ []) ≡ (list_any t xs || (t x || false))
any_push t [] x = refl
any_push t (y ∷ ys) x = rw (any_push t ys x) (sym (or_grouped (t y) (list_any t ys) (t x || false)))
  where
    or_grouped : (a b c : Bool) → ((a || b) || c) ≡ (a || (b || c))
    or_grouped true b c = refl
    or_grouped false b c = refl

pub without-push : (i : ℕ) (ps : List Place) (p : Place) (held : List Holding)
    → without i (ps ++ p ∷ []) held ≡ without i (p ∷ []) (without i ps held)
without-push i ps p [] = refl
without-push i ps p (h ∷ hs) =
    rw (any_push (λ q. is_of i q h) ps p)
    (⊎_elim
    (λ t. rw t (without-push i ps p hs))
    (λ f. rw f (⊎_elim (λ e. rw e (without-push i ps p hs)) (λ e. rw e (ap (λ rest. h ∷ rest)
    (without-push i ps p hs))) (cases_Bool (is_of i p h))))
    (cases_Bool (list_any (λ q. is_of i q h) ps)))

any_filter : {A : Type 0} (t keep : A → Bool) → ((x : A) → t x ≡ true → keep x ≡ true) → (xs : List A)
    → list_any t (filter keep xs) ≡ list_any t xs
any_filter t keep kept [] = refl
any_filter t keep kept (x ∷ xs) =
    ⊎_elim
    (λ k. rw k (ap (λ b. t x || b) (any_filter t keep kept xs)))
    (λ k. let no : t x ≡ false = false_from_ne_true (t x) (λ e. both_ways (keep x) k (kept x e)) in rw (k, no)
    (any_filter t keep kept xs))
    (cases_Bool (keep x))

without_where : (i : ℕ) (ps : List Place) (keep : Place → Bool) (held : List Holding)
    → ((p : Place) → holds_at held i p ≡ true → keep p ≡ true) → without i (filter keep ps) held ≡ without i ps held
without_where i ps keep [] kept = refl
without_where i ps keep (h ∷ hs) kept =
    rw (any_filter (λ p. is_of i p h) keep (λ p t. kept p (or_left _ _ t)) ps)
    (⊎_elim
    (λ t. rw t (without_where i ps keep hs (λ p e. kept p (or_right _ _ e))))
    (λ f. rw f (ap (λ rest. h ∷ rest) (without_where i ps keep hs (λ p e. kept p (or_right _ _ e)))))
    (cases_Bool (list_any (λ p. is_of i p h) ps)))

-- only the places that hold the item matter
pub without_held : (i : ℕ) (ps : List Place) (held : List Holding)
    → without i ps held ≡ without i (filter (holds_at held i) ps) held
without_held i ps held = sym (without_where i ps (holds_at held i) held (λ p t. t))

-- ---- the steps of loops

pub leaves_none : (i : ℕ) (held : List Holding) → held ≡ without i [] held
leaves_none i [] = refl
leaves_none i (h ∷ hs) = ap (λ rest. h ∷ rest) (leaves_none i hs)

more_modes : (modes : List ℕ) (k m : ℕ) → k < length modes → m ≡ get_or modes k m
    → map Mode (take (k + 1) modes) ≡ map Mode (take k modes) ++ Mode m ∷ []
more_modes modes k m lt is = rw (take_more modes k m lt, ← is) (map-append Mode (take k modes) (m ∷ []))

pub leaves_more : (i : ℕ) (modes : List ℕ) (k m : ℕ) (start now new : Held) → now ≡ record start
    { held = without i (map Mode (take k modes)) start.held } → new ≡ record now
    { held = without i (Mode m ∷ []) now.held } → k < length modes → m ≡ get_or modes k m → new ≡ record start
    { held = without i (map Mode (take (k + 1) modes)) start.held }
leaves_more i modes k m start now new before step lt is =
    rw (more_modes modes k m lt is, without-push i (map Mode (take k modes)) (Mode m) start.held)
    (step ∙ ap {A = Held} (λ h. record h { held = without i (Mode m ∷ []) h.held }) before)

pub enters_more : (i : Item) (modes : List ℕ) (k m : ℕ) (start now new : Held) → now ≡ record start
    { held = with_new (in_each i (map Mode (take k modes))) start.held } → new ≡ record now
    { held = entered (record { place = Mode m; item = i }) now.held } → k < length modes → m ≡ get_or modes k m → new
    ≡ record start { held = with_new (in_each i (map Mode (take (k + 1) modes))) start.held }
enters_more i modes k m start now new before step lt is =
    let put : Place → Holding = λ p. record { place = p; item = i } in
    rw (
      more_modes modes k m lt is,
      map-append put (map Mode (take k modes)) (Mode m ∷ []),
      with_new-push
          (in_each i (map Mode (take k modes))) (put (Mode m)) start.held,
    )
    (step ∙ ap {A = Held} (λ h. record h { held = entered (put (Mode m)) h.held }) before)

pub enters_room : (i : Item) (modes : List ℕ) (k : ℕ) (held : List Holding) → k < length modes
    → length (with_new (in_each i (map Mode (take k modes))) held) ≤ length held + k
enters_room i modes k held lt =
    let put : Place → Holding = λ p. record { place = p; item = i } in
    omega (
      arith,
      length-with_new (in_each i (map Mode (take k modes))) held,
      length-map (map Mode (take k modes))
          put,
      length-map (take k modes) Mode,
      length-take k modes,
    )

pub gains_more : (p : Place) (is : List Item) (k : ℕ) (i : Item) (start now new : Held) → now ≡ record start
    { held = with_new (each_in p (take k is)) start.held } → new ≡ record now
    { held = entered (record { place = p; item = i }) now.held } → k < length is → i ≡ get_or is k i → new
    ≡ record start { held = with_new (each_in p (take (k + 1) is)) start.held }
gains_more p is k i start now new before step lt e =
    let put : Item → Holding = λ j. record { place = p; item = j } in
    rw (
      take_more is k i lt,
      ← e,
      map-append put (take k is) (i ∷ []),
      with_new-push (each_in p (take k is)) (put i)
          start.held,
    )
    (step ∙ ap {A = Held} (λ h. record h { held = entered (put i) h.held }) before)

pub gains_room : (p : Place) (is : List Item) (k : ℕ) (held : List Holding) → k < length is
    → length (with_new (each_in p (take k is)) held) ≤ length held + k
gains_room p is k held lt =
    let put : Item → Holding = λ i. record { place = p; item = i } in
    omega (arith, length-with_new (each_in p (take k is)) held, length-map (take k is) put, length-take k is)
