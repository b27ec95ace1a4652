-- Numbers below one that pass a test.
use Rattle.std.proofs.Common.{◌≡◌, ℕ, zero, suc, ◌+◌, ◌-◌, ◌<◌, ◌≤◌, Bool, true, false, cond, eqb, List, [], ◌∷◌, ◌++◌, length, map, filter, get_or, Option, Some, None, is_some, IsSome, refl, sym, ap, ◌∙◌, ⊎_elim, arith, append-nil, length-append}
use Rattle.std.specs.List.{range_with_len, slice_set}
use Rattle.std.proofs.lemmas.Bool.{cases_eq, both_ways, eqb-true, eq-eqb, ne_eqb}
use Rattle.std.proofs.lemmas.List.Elements.{filter-append}
use Rattle.rl_base.specs.declared.registrations.Registration.{Registration}
use Rattle.rl_base.specs.Receivers.{is_there_and}
use Rattle.cf_notify.specs.Centres.{without, count_there}
use Rattle.cf_notify.specs.Links.{is_mark, is_in}
use Rattle.cf_notify.specs.Registered.{name_mark, observer_mark, is_named, is_by, upto, passes, forgotten_upto}

pub length-filter-le : {A : Type 0} (p : A → Bool) (xs : List A) → length (filter p xs) ≤ length xs
length-filter-le p [] = omega arith
length-filter-le p (x ∷ xs) = elim (p x) as (λ t. length (cond t (x ∷ filter p xs) (filter p xs)) ≤ length (x ∷ xs))
    [ true ↦ omega (arith, length-filter-le p xs) | false ↦ omega (arith, length-filter-le p xs) ]

-- ---- numbers in order

range-push : (a n : ℕ) → range_with_len a (n + 1) ≡ range_with_len a n ++ (a + n) ∷ []
range-push a zero = let e : a + 0 ≡ a = omega arith in rw e refl
range-push a (suc n) =
    let one : suc n + 1 ≡ suc (n + 1) = omega arith in
    let next : a + suc n ≡ (a + 1) + n = omega arith in
    rw (one, next) (ap (λ ns. a ∷ ns) (range-push (a + 1) n))

module _ (test : ℕ → Bool) where
  pub upto_more : (n : ℕ) → upto test (n + 1) ≡ upto test n ++ cond (test n) (n ∷ []) []
  upto_more n = let here : 0 + n ≡ n = omega arith in rw (
    range-push 0 n,
    here,
    filter-append test
        (range_with_len 0 n) (n ∷ []),
  ) refl

  pub upto_skip : (gap c : ℕ) → ((j : ℕ) → c ≤ j → j < c + gap → test j ≡ false) → upto test (c + gap) ≡ upto test c
  upto_skip zero c none = let e : c + 0 ≡ c = omega arith in rw e refl
  upto_skip (suc gap) c none =
      let e : c + suc gap ≡ (c + gap) + 1 = omega arith in
      let last : test (c + gap) ≡ false = none (c + gap) (omega arith) (omega arith) in
      rw (e, upto_more (c + gap), last, append-nil (upto test (c + gap))) (upto_skip gap c
      (λ j le lt. none j le (omega arith)))

  pub upto_gap : (c d : ℕ) → c ≤ d → ((j : ℕ) → c ≤ j → j < d → test j ≡ false) → upto test d ≡ upto test c
  upto_gap c d le none = let e : d ≡ c + (d - c) = omega arith in rw e (upto_skip (d - c) c
      (λ j ge lt. none j ge (omega arith)))

-- ---- lists that are made once

pub whole_after : (old new n : ℕ) → (0 < new → new ≡ cond (eqb old 0) n old) → (0 < old → old ≡ n) → 0 < new → new ≡ n
whole_after old new n whole was some =
    ⊎_elim
    (λ none. let t : eqb old 0 ≡ true = eq-eqb old 0 none in whole some ∙ (rw t refl))
    (λ there. let f : eqb old 0 ≡ false = ne_eqb old 0 there in let same : new ≡ old = whole some
    ∙ (rw f refl) in same ∙ was (omega arith))
    (cases_eq old 0)

pub made_after : (old new n : ℕ) → 0 < n → new ≡ cond (eqb old 0) n old → 0 < new
made_after old new n some is =
    ⊎_elim
    (λ none. let t : eqb old 0 ≡ true = eq-eqb old 0 none in let now : new ≡ n = is ∙ (rw t refl) in omega arith)
    (λ there. let f : eqb old 0 ≡ false = ne_eqb old 0 there in let now : new ≡ old = is ∙ (rw f refl) in omega arith)
    (cases_eq old 0)

-- ---- the lists of registrations

map_at : {A B : Type 0} (f : A → B) (xs : List A) (k : ℕ) (d : A) → get_or (map f xs) k (f d) ≡ f (get_or xs k d)
map_at f [] k d = refl
map_at f (x ∷ xs) zero d = refl
map_at f (x ∷ xs) (suc k) d = map_at f xs k d

pub named_in : (made : List (Option Registration)) (marks : List (Option ℕ)) → marks ≡ map name_mark made → (l j : ℕ)
    → is_named l made j ≡ is_in marks l j
named_in made marks e l j = ap (is_mark l) (sym (map_at name_mark made j None) ∙ ap (λ ms. get_or ms j None) (sym e))

pub by_in : (made : List (Option Registration)) (marks : List (Option ℕ)) → marks ≡ map observer_mark made → (o j : ℕ)
    → is_by o made j ≡ is_in marks o j
by_in made marks e o j = ap (is_mark o) (sym (map_at observer_mark made j None) ∙ ap (λ ms. get_or ms j None) (sym e))

pub mark_is : (l : ℕ) (m : Option ℕ) → is_mark l m ≡ true → m ≡ Some l
mark_is l None t = absurd (both_ways _ refl t)
mark_is l (Some n) t = ap Some (eqb-true n l t)

-- ---- one is forgotten

pub there_less : (made : List (Option Registration)) (k : ℕ) → is_some (get_or made k None) ≡ true
    → count_there (slice_set made k None) + 1 ≡ count_there made
there_less [] k t = absurd (both_ways _ refl t)
there_less (None ∷ rs) zero t = absurd (both_ways _ refl t)
there_less (Some r ∷ rs) zero t = omega arith
there_less (None ∷ rs) (suc k) t = there_less rs k t
there_less (Some r ∷ rs) (suc k) t = omega (arith, there_less rs k t)

pub map_without : {A : Type 0} (f : Option Registration → Option A) (made : List (Option Registration)) (k : ℕ)
    → f None ≡ None → map f (slice_set made k None) ≡ slice_set (map f made) k None
map_without f [] k e = refl
map_without f (r ∷ rs) zero e = ap (λ m. m ∷ map f rs) e
map_without f (r ∷ rs) (suc k) e = ap (λ ms. f r ∷ ms) (map_without f rs k e)

-- ---- the first ones are forgotten

pub forgotten_at : (n : ℕ) (test : Registration → Bool) (made : List (Option Registration)) (j : ℕ) → n ≤ j
    → get_or (forgotten_upto n test made) j None ≡ get_or made j None
forgotten_at zero test made j le = refl
forgotten_at (suc n) test [] j le = refl
forgotten_at (suc n) test (r ∷ rs) zero le = absurd (omega arith)
forgotten_at (suc n) test (r ∷ rs) (suc j) le = forgotten_at n test rs j (omega arith)

pub forgotten_more : (n : ℕ) (test : Registration → Bool) (made : List (Option Registration))
    → forgotten_upto (suc n) test made ≡ cond (passes test made n) (slice_set (forgotten_upto n test made) n None)
    (forgotten_upto n test made)
forgotten_more zero test [] = refl
forgotten_more zero test (r ∷ rs) = elim (is_there_and test r) as (λ t. cond t None r ∷ rs ≡ cond t (None ∷ rs)
    (r ∷ rs)) [ true ↦ refl | false ↦ refl ]
forgotten_more (suc n) test [] = refl
forgotten_more (suc n) test (r ∷ rs) =
    rw (forgotten_more n test rs)
    (elim (passes test rs n) as (λ t. cond (is_there_and test r) None r ∷ cond t
    (slice_set (forgotten_upto n test rs) n None) (forgotten_upto n test rs) ≡ cond t
    (cond (is_there_and test r) None r ∷ slice_set (forgotten_upto n test rs) n None)
    (cond (is_there_and test r) None r ∷ forgotten_upto n test rs)) [ true ↦ refl | false ↦ refl ])

forgotten_skip : (test : Registration → Bool) (made : List (Option Registration)) (gap c : ℕ)
    → ((j : ℕ) → c ≤ j → j < c + gap → passes test made j ≡ false)
    → forgotten_upto (c + gap) test made ≡ forgotten_upto c test made
forgotten_skip test made zero c none = let e : c + 0 ≡ c = omega arith in rw e refl
forgotten_skip test made (suc gap) c none =
    let e : c + suc gap ≡ suc (c + gap) = omega arith in
    let last : passes test made (c + gap) ≡ false = none (c + gap) (omega arith) (omega arith) in
    rw (e, forgotten_more (c + gap) test made, last) (forgotten_skip test made gap c
    (λ j le lt. none j le (omega arith)))

pub forgotten_gap : (test : Registration → Bool) (made : List (Option Registration)) (c d : ℕ) → c ≤ d
    → ((j : ℕ) → c ≤ j → j < d → passes test made j ≡ false) → forgotten_upto d test made ≡ forgotten_upto c test made
forgotten_gap test made c d le none = let e : d ≡ c + (d - c) = omega arith in rw e
    (forgotten_skip test made (d - c) c (λ j ge lt. none j ge (omega arith)))

pub forgotten_all : (test : Registration → Bool) (made : List (Option Registration))
    → forgotten_upto (length made) test made ≡ without test made
forgotten_all test [] = refl
forgotten_all test (r ∷ rs) = ap (λ ms. cond (is_there_and test r) None r ∷ ms) (forgotten_all test rs)

-- ---- how many pass

pub upto_most : (test : ℕ → Bool) (n : ℕ) → length (upto test n) ≤ n
upto_most test n = omega (arith, length-filter-le test (range_with_len 0 n), range_long 0 n)
  where
    range_long : (a m : ℕ) → length (range_with_len a m) ≡ m
    range_long a zero = refl
    range_long a (suc m) = omega (arith, range_long (a + 1) m)

pub upto_le : (test : ℕ → Bool) (gap c : ℕ) → length (upto test c) ≤ length (upto test (c + gap))
upto_le test zero c = let e : c + 0 ≡ c = omega arith in rw e (omega arith)
upto_le test (suc gap) c =
    let e : c + suc gap ≡ (c + gap) + 1 = omega arith in
    rw (e, upto_more test (c + gap)) (omega (
      arith,
      upto_le test gap c,
      length-append (upto test (c + gap))
          (cond (test (c + gap)) ((c + gap) ∷ []) []),
    ))

range_shift : (a n : ℕ) → range_with_len (a + 1) n ≡ map (λ k. k + 1) (range_with_len a n)
range_shift a zero = refl
range_shift a (suc n) = ap (λ ns. (a + 1) ∷ ns) (range_shift (a + 1) n)

filter_shift : (test : ℕ → Bool) (ns : List ℕ)
    → length (filter test (map (λ k. k + 1) ns)) ≡ length (filter (λ k. test (k + 1)) ns)
filter_shift test [] = refl
filter_shift test (n ∷ ns) = elim (test (n + 1)) as (λ t. length (cond t ((n + 1) ∷ filter test (map (λ k. k + 1) ns))
    (filter test (map (λ k. k + 1) ns))) ≡ length (cond t (n ∷ filter (λ k. test (k + 1)) ns)
    (filter (λ k. test (k + 1)) ns))) [ true ↦ omega (arith, filter_shift test ns) | false ↦ filter_shift test ns ]

filter_later : (test : Registration → Bool) (r : Option Registration) (rs : List (Option Registration)) (ns : List ℕ)
    → filter (λ k. passes test (r ∷ rs) (k + 1)) ns ≡ filter (passes test rs) ns
filter_later test r rs [] = refl
filter_later test r rs (n ∷ ns) = let one : n + 1 ≡ suc n = omega arith in rw one
    (ap (λ ms. cond (passes test rs n) (n ∷ ms) ms) (filter_later test r rs ns))

pub passes_most : (test : Registration → Bool) (made : List (Option Registration))
    → length (upto (passes test made) (length made)) ≤ count_there made
passes_most test [] = omega arith
passes_most test (r ∷ rs) =
    let rest : length (filter (passes test (r ∷ rs)) (range_with_len 1 (length rs))) ≡ length
    (upto (passes test rs) (length rs)) =
    ap (λ ns. length (filter (passes test (r ∷ rs)) ns)) (range_shift 0 (length rs))
    ∙ (filter_shift (passes test (r ∷ rs)) (range_with_len 0 (length rs)) ∙ ap length
    (filter_later test r rs (range_with_len 0 (length rs)))) in
    one_more r rest (passes_most test rs)
  where
    one_more : (s : Option Registration)
        → length (filter (passes test (s ∷ rs)) (range_with_len 1 (length rs))) ≡ length
        (upto (passes test rs) (length rs)) → length (upto (passes test rs) (length rs)) ≤ count_there rs
        → length (cond (is_there_and test s) (0 ∷ filter (passes test (s ∷ rs)) (range_with_len 1 (length rs)))
        (filter (passes test (s ∷ rs)) (range_with_len 1 (length rs)))) ≤ count_there (s ∷ rs)
    one_more None e most = omega (arith, e, most)
    one_more (Some s) e most = elim (test s) as (λ t. length (cond t (0 ∷ filter (passes test (Some s ∷ rs))
        (range_with_len 1 (length rs))) (filter (passes test (Some s ∷ rs)) (range_with_len 1 (length rs))))
        ≤ count_there (Some s ∷ rs)) [ true ↦ omega (arith, e, most) | false ↦ omega (arith, e, most) ]

-- ---- one that is there

pub there_at : (made : List (Option Registration)) (k : ℕ) → IsSome (get_or made k None)
    → is_some (get_or made k None) ≡ true
there_at made k some = some
