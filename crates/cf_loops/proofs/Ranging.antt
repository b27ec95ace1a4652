-- Tests over numbers in order: what they keep, and what is one more of it.
use Rattle.std.proofs.Common.{◌≡◌, ℕ, zero, suc, ◌+◌, ◌<◌, ◌≤◌, Bool, true, false, cond, ◌&&◌, ◌||◌, eqb, ltb, List, [], ◌∷◌, length, map, get_or, refl, sym, ap, ◌∙◌, arith, inl, inr}
use Rattle.std.specs.List.{filter, list_any, All, AllPairs, range_with_len}
use Rattle.std.proofs.lemmas.Bool.{eq-eqb, ne_eqb, lt-ltb}
use Rattle.std.proofs.lemmas.Bool.Decides.{eqb_tells, nat_tests}
use Rattle.std.proofs.lemmas.List.Elements.{All-nil, All-cons, All-head, All-tail, All-weaker, All-filter}
use Rattle.std.proofs.lemmas.List.Folds.{list_any_none, list_any_at}
use Rattle.std.proofs.lemmas.List.FromFn.{length-range_with_len, get_or-range_with_len}
use Rattle.std.proofs.lemmas.Map.Views.{any-filter_same}
use Rattle.rl_modes.specs.Loops.{is_among, with_mode}

-- ---- tests that agree

pub any_agree : {A : Type 0} (f g : A → Bool) (xs : List A) → All (λ x. f x ≡ g x) xs → list_any f xs ≡ list_any g xs
any_agree f g [] h = refl
any_agree {A} f g (x ∷ xs) h =
    let P : A → Type 0 = λ y. f y ≡ g y in
    rw (All-head P x xs h, any_agree f g xs (All-tail P x xs h)) refl

pub filter_same : {A : Type 0} (f g : A → Bool) (xs : List A) → All (λ x. f x ≡ g x) xs → filter f xs ≡ filter g xs
filter_same f g [] h = refl
filter_same {A} f g (x ∷ xs) h =
    let P : A → Type 0 = λ y. f y ≡ g y in
    rw (All-head P x xs h, filter_same f g xs (All-tail P x xs h)) refl

pub any_map : {A B : Type 0} (f : B → Bool) (g : A → B) (xs : List A)
    → list_any f (map g xs) ≡ list_any (λ x. f (g x)) xs
any_map f g [] = refl
any_map f g (x ∷ xs) = rw (any_map f g xs) refl

pub filter_map : {A B : Type 0} (f : B → Bool) (g : A → B) (xs : List A)
    → filter f (map g xs) ≡ map g (filter (λ x. f (g x)) xs)
filter_map f g [] = refl
filter_map f g (x ∷ xs) = by (f (g x)) (filter_map f g xs)
  where
    by : (b : Bool) → filter f (map g xs) ≡ map g (filter (λ y. f (g y)) xs)
        → cond b (g x ∷ filter f (map g xs)) (filter f (map g xs)) ≡ map g (cond b (x ∷ filter (λ y. f (g y)) xs) (filter (λ y. f (g y)) xs))
    by true rest = ap (λ ys. g x ∷ ys) rest
    by false rest = rest

-- two tests keep the same in either order
pub filter_turned : {A : Type 0} (f g : A → Bool) (xs : List A) → filter f (filter g xs) ≡ filter g (filter f xs)
filter_turned f g [] = refl
filter_turned f g (x ∷ xs) = by (f x) (g x) refl refl (filter_turned f g xs)
  where
    by : (a b : Bool) → f x ≡ a → g x ≡ b → filter f (filter g xs) ≡ filter g (filter f xs)
        → filter f (cond b (x ∷ filter g xs) (filter g xs)) ≡ filter g (cond a (x ∷ filter f xs) (filter f xs))
    by true true d e rest = rw (d, e) (ap (λ ys. x ∷ ys) rest)
    by true false d e rest = rw e rest
    by false true d e rest = rw d rest
    by false false d e rest = rest

-- ---- numbers in order

pub range_rises : (a n : ℕ) → AllPairs (λ x y. x < y) (range_with_len a n)
range_rises a n i j d lt below =
    let long : length (range_with_len a n) ≡ n = length-range_with_len a n in
    let first : i < n = omega (arith, lt, below, long) in
    let second : j < n = omega (arith, below, long) in
    rw (get_or-range_with_len a n i d first, get_or-range_with_len a n j d second) (omega arith)

pub range_within : (a n : ℕ) → All (λ x. (a ≤ x) × (x < a + n)) (range_with_len a n)
range_within a n i d lt =
    let first : i < n = omega (arith, lt, length-range_with_len a n) in
    rw (get_or-range_with_len a n i d first) (omega arith, omega arith)

not_above : (a : ℕ) (xs : List ℕ) → All (λ x. a < x) xs → list_any (λ x. eqb x a) xs ≡ false
not_above a xs h = list_any_none (λ x. eqb x a) xs (λ k d lt. apart_from (get_or xs k d) (h k d lt))
  where
    apart_from : (x : ℕ) → a < x → eqb x a ≡ false
    apart_from x lt = grind (arith, nat_tests)

-- numbers in order that are those of a range which pass a test
pub range_passes : (f : ℕ → Bool) (n a : ℕ) (xs : List ℕ) → AllPairs (λ x y. x < y) xs
    → All (λ x. (a ≤ x) × (x < a + n)) xs
    → ((k : ℕ) → a ≤ k → f k ≡ list_any (λ x. eqb x k) xs) → filter f (range_with_len a n) ≡ xs
range_passes f zero a [] rises within agree = refl
range_passes f zero a (x ∷ xs) rises within agree = let w = within 0 x (omega arith) in absurd (omega (arith, w.0, w.1))
range_passes f (suc n) a [] rises within agree = rw (agree a (omega arith)) (range_passes f n (a + 1) [] rises (All-nil _) (λ k le. agree k (omega arith)))
range_passes f (suc n) a (x ∷ xs) rises within agree = elim (eqb_tells x a) [
  | inl e ↦
      let here : f a ≡ true = agree a (omega arith) ∙ ap (λ (b : Bool). b || list_any (λ y. eqb y a) xs) e.0 in
      rw here (ap (λ (y : ℕ). y ∷ filter f (range_with_len (a + 1) n)) (sym e.1) ∙ ap (λ (ys : List ℕ). x ∷ ys) (range_passes f n (a + 1) xs
      (λ i j d lt below. rises (suc i) (suc j) d (omega arith) (omega arith))
      (λ i d lt. let up : x < get_or xs i d = rises 0 (suc i) d (omega arith) (omega arith) in let w = within (suc i) d (omega arith) in (omega (arith, up, e.1), omega (arith, w.1)))
      (λ k le. agree k (omega arith) ∙ ap (λ (b : Bool). b || list_any (λ y. eqb y k) xs) (ne_eqb x k (λ q. absurd (omega (arith, q, e.1, le)))))))
  | inr e ↦
      let above : a < x = let w = within 0 x (omega arith) in omega (arith, w.0, strict x a e.1 w.0) in
      let rest : All (λ y. a < y) (x ∷ xs) = All-cons (λ y. a < y) x xs above (λ i d lt. let up : x < get_or xs i d = rises 0 (suc i) d (omega arith) (omega arith) in omega (arith, up, above)) in
      rw (agree a (omega arith) ∙ not_above a (x ∷ xs) rest) (range_passes f n (a + 1) (x ∷ xs) rises
      (λ i d lt. let w = within i d lt in (omega (arith, rest i d lt), omega (arith, w.1)))
      (λ k le. agree k (omega arith)))
]
  where
    strict : (y b : ℕ) → (y ≡ b → ⊥) → b ≤ y → b < y
    strict y b apart le = omega arith

-- ---- the numbers of a range that pass a test, as modes

pub among_range : (f : ℕ → Bool) (n m : ℕ) → m < n → is_among m (filter f (range_with_len 0 n)) ≡ f m
among_range f n m lt =
    let long : m < length (range_with_len 0 n) = omega (arith, lt, length-range_with_len 0 n) in
    let at : get_or (range_with_len 0 n) m 0 ≡ m = get_or-range_with_len 0 n m 0 lt ∙ (omega arith) in
    let there : list_any (λ k. eqb k m) (range_with_len 0 n) ≡ true = list_any_at (λ k. eqb k m) (range_with_len 0 n) m 0 long (eq-eqb _ _ at) in
    any-filter_same (λ k. eqb k m) f (f m) (λ k t. ap f (is k m t)) (range_with_len 0 n) ∙ ap (λ (b : Bool). f m && b) there ∙ and_true (f m)
  where
    is : (k m : ℕ) → eqb k m ≡ true → k ≡ m
    is k m t = grind (arith, nat_tests)

    and_true : (b : Bool) → (b && true) ≡ b
    and_true true = refl
    and_true false = refl

first_mode : (m : ℕ) (xs : List ℕ) → All (λ x. m < x) xs → with_mode m xs ≡ m ∷ xs
first_mode m [] h = refl
first_mode m (x ∷ xs) h = let f : ltb x m ≡ false = above x (All-head (λ y. m < y) x xs h) in rw f refl
  where
    above : (y : ℕ) → m < y → ltb y m ≡ false
    above y lt = grind (arith, nat_tests)

-- one more of them
pub range_more : (f g : ℕ → Bool) (m n a : ℕ) → a ≤ m → m < a + n → f m ≡ false → g m ≡ true
    → ((k : ℕ) → (k ≡ m → ⊥) → g k ≡ f k)
    → with_mode m (filter f (range_with_len a n)) ≡ filter g (range_with_len a n)
range_more f g m zero a le lt off on same = absurd (omega arith)
range_more f g m (suc n) a le lt off on same = elim (eqb_tells a m) [
  | inl e ↦
      let no_more : f a ≡ false = ap f e.1 ∙ off in
      let now : g a ≡ true = ap g e.1 ∙ on in
      let later : All (λ x. m < x) (range_with_len (a + 1) n) = All-weaker (λ x. (a + 1 ≤ x) × (x < a + 1 + n)) (λ x. m < x) (λ x w. omega (arith, w.0, e.1)) (range_with_len (a + 1) n) (range_within (a + 1) n) in
      rw (no_more, now) (first_mode m (filter f (range_with_len (a + 1) n)) (later_kept (range_with_len (a + 1) n) later)
      ∙ ap (λ (y : ℕ). y ∷ filter f (range_with_len (a + 1) n)) (sym e.1)
      ∙ ap (λ (ys : List ℕ). a ∷ ys) (filter_same f g (range_with_len (a + 1) n) (All-weaker (λ x. m < x) (λ x. f x ≡ g x) (λ x up. sym (same x (λ q. absurd (omega (arith, q, up))))) (range_with_len (a + 1) n) later)))
  | inr e ↦
      let rest = range_more f g m n (a + 1) (strict e.1) (omega arith) off on same in
      by (f a) refl (strict e.1) (same a e.1) rest
]
  where
    strict : (a ≡ m → ⊥) → a + 1 ≤ m
    strict apart = omega arith

    later_kept : (xs : List ℕ) → All (λ x. m < x) xs → All (λ x. m < x) (filter f xs)
    later_kept xs h = All-filter f (λ x. m < x) xs h

    by : (b : Bool) → f a ≡ b → a + 1 ≤ m → g a ≡ f a
        → with_mode m (filter f (range_with_len (a + 1) n)) ≡ filter g (range_with_len (a + 1) n)
        → with_mode m (filter f (range_with_len a (suc n))) ≡ filter g (range_with_len a (suc n))
    by true e below is rest =
        let t : ltb a m ≡ true = lt-ltb a m (omega arith) in
        rw (is ∙ e, e) (rw t (ap (λ (ys : List ℕ). a ∷ ys) rest))
    by false e below is rest = rw (is ∙ e, e) rest
