-- Lists with a default, numbers in order, and how often a number stands in a list.
use Rattle.std.proofs.Common.{◌≡◌, ℕ, zero, suc, ◌+◌, ◌-◌, ◌<◌, ◌≤◌, Bool, true, false, cond, List, [], ◌∷◌, ◌++◌, length, map, take, drop, get_or, Option, Some, None, refl, sym, ap, subst, ◌∙◌, arith, append_assoc}
use Rattle.std.proofs.lemmas.List.{append-nil}
use Rattle.std.specs.Prelude.{slice_set, filter, flat_map, ◌&&◌, ◌||◌}
use Rattle.std.specs.List.{list_any, range_with_len}
use Rattle.std.specs.Slice.{IsItemAt}
use denote.Ref.{Bor}
use Rattle.cf_model.specs.State.{at_or, with_at}

-- ---- lists with a default

-- what is found at a number, or not
at-found : {A : Type 0} (a : A) (n : ℕ) (xs : List A) (x : A) → n < length xs → x ≡ get_or xs n x → x ≡ at_or a n xs
at-found a n [] x lt is = absurd (omega arith)
at-found a zero (y ∷ ys) x lt is = is
at-found a (suc n) (y ∷ ys) x lt is = at-found a n ys x (omega arith) is

at-past : {A : Type 0} (a : A) (n : ℕ) (xs : List A) → length xs ≤ n → a ≡ at_or a n xs
at-past a n [] le = refl
at-past a zero (x ∷ xs) le = absurd (omega arith)
at-past a (suc n) (x ∷ xs) le = at-past a n xs (omega arith)

pub at-some : {A : Type 0} (a : A) (n : ℕ) (xs : List A) (r : Option (Bor A)) (x : Bor A) → IsItemAt xs n r → r ≡ Some x
    → x.now ≡ at_or a n xs
at-some a n xs r x item is =
    let there = subst (IsItemAt xs n) is item in at-found a n xs x.now there.3.0 (there.3.1 x.now)

pub at-none : {A : Type 0} (a : A) (n : ℕ) (xs : List A) (r : Option (Bor A)) → IsItemAt xs n r → r ≡ None
    → a ≡ at_or a n xs
at-none a n xs r item is = let none = subst (IsItemAt xs n) is item in at-past a n xs none.3

-- the default after the last one changes nothing past it
pub with-at-more : {A : Type 0} (a y : A) (n : ℕ) (xs : List A) → length xs ≤ n
    → with_at a n y (xs ++ a ∷ []) ≡ with_at a n y xs
with-at-more a y zero [] h = refl
with-at-more a y (suc n) [] h = refl
with-at-more a y zero (x ∷ xs) h = absurd (omega arith)
with-at-more a y (suc n) (x ∷ xs) h = ap (λ ys. x ∷ ys) (with-at-more a y n xs (omega arith))

pub with-at-set : {A : Type 0} (a y : A) (n : ℕ) (xs : List A) → n < length xs
    → slice_set xs n y ≡ with_at a n y xs
with-at-set a y n [] h = absurd (omega arith)
with-at-set a y zero (x ∷ xs) h = refl
with-at-set a y (suc n) (x ∷ xs) h = ap (λ ys. x ∷ ys) (with-at-set a y n xs (omega arith))

-- ---- numbers in order

pub range-next : (i n : ℕ) → i < n → range_with_len i (n - i) ≡ i ∷ range_with_len (i + 1) (n - (i + 1))
range-next i n h = let e : n - i ≡ suc (n - (i + 1)) = omega arith in ap (range_with_len i) e

pub range-none : (i n : ℕ) → n ≤ i → range_with_len i (n - i) ≡ []
range-none i n h = let e : n - i ≡ 0 = omega arith in ap (range_with_len i) e

-- some of those that are chosen pass
abbrev pub any-chosen : (chosen passes : ℕ → Bool) → List ℕ → Bool
any-chosen chosen passes ns = list_any passes (filter chosen ns)

by-head : (chosen passes : Bool) (n : ℕ) (test : ℕ → Bool) → test n ≡ passes → (rest : List ℕ)
    → list_any test (cond chosen (n ∷ rest) rest) ≡ ((chosen && passes) || list_any test rest)
by-head true true n test t rest = rw t refl
by-head true false n test t rest = rw t refl
by-head false passes n test t rest = refl

pub any-next : (chosen passes : ℕ → Bool) (i n : ℕ) → i < n
    → any-chosen chosen passes (range_with_len i (n - i))
    ≡ ((chosen i && passes i) || any-chosen chosen passes (range_with_len (i + 1) (n - (i + 1))))
any-next chosen passes i n h =
    ap (any-chosen chosen passes) (range-next i n h)
    ∙ by-head (chosen i) (passes i) i passes refl (filter chosen (range_with_len (i + 1) (n - (i + 1))))

-- ---- walks over numbers in order

filter-head : (p : ℕ → Bool) (i : ℕ) (rest : List ℕ) (b : Bool) → p i ≡ b
    → filter p (i ∷ rest) ≡ cond b (i ∷ filter p rest) (filter p rest)
filter-head p i rest b h = ap (λ b. cond b (i ∷ filter p rest) (filter p rest)) h

-- a number that passes is listed
pub filter-put : (p : ℕ → Bool) (i n : ℕ) (ys all : List ℕ) → i < n → p i ≡ true
    → ys ++ filter p (range_with_len i (n - i)) ≡ all
    → (ys ++ i ∷ []) ++ filter p (range_with_len (i + 1) (n - (i + 1))) ≡ all
filter-put p i n ys all lt is h =
    append_assoc ys (i ∷ []) (filter p (range_with_len (i + 1) (n - (i + 1))))
    ∙ ap (λ xs. ys ++ xs) (sym (ap (filter p) (range-next i n lt) ∙ filter-head p i (range_with_len (i + 1) (n - (i + 1))) true is)) ∙ h

-- one that does not is passed over
pub filter-pass : (p : ℕ → Bool) (i n : ℕ) (ys all : List ℕ) → i < n → p i ≡ false
    → ys ++ filter p (range_with_len i (n - i)) ≡ all → ys ++ filter p (range_with_len (i + 1) (n - (i + 1))) ≡ all
filter-pass p i n ys all lt is h =
    ap (λ xs. ys ++ xs) (sym (ap (filter p) (range-next i n lt) ∙ filter-head p i (range_with_len (i + 1) (n - (i + 1))) false is)) ∙ h

-- past the last one all are listed
pub filter-end : (p : ℕ → Bool) (i n : ℕ) (ys all : List ℕ) → n ≤ i
    → ys ++ filter p (range_with_len i (n - i)) ≡ all → ys ≡ all
filter-end p i n ys all le h = sym (append-nil ys) ∙ sym (ap (λ xs. ys ++ filter p xs) (range-none i n le)) ∙ h

pub flat-put : {A : Type 0} (g : ℕ → List A) (i n : ℕ) (ys all : List A) → i < n
    → ys ++ flat_map g (range_with_len i (n - i)) ≡ all
    → (ys ++ g i) ++ flat_map g (range_with_len (i + 1) (n - (i + 1))) ≡ all
flat-put g i n ys all lt h =
    append_assoc ys (g i) (flat_map g (range_with_len (i + 1) (n - (i + 1))))
    ∙ ap (λ xs. ys ++ xs) (sym (ap (flat_map g) (range-next i n lt))) ∙ h

pub flat-end : {A : Type 0} (g : ℕ → List A) (i n : ℕ) (ys all : List A) → n ≤ i
    → ys ++ flat_map g (range_with_len i (n - i)) ≡ all → ys ≡ all
flat-end g i n ys all le h = sym (append-nil ys) ∙ sym (ap (λ xs. ys ++ flat_map g xs) (range-none i n le)) ∙ h

-- ---- a walk that changes each

set-walk : {A : Type 0} (f : A → A) (d y : A) (i : ℕ) (all : List A) → i < length all → y ≡ f (get_or all i d)
    → slice_set (map f (take i all) ++ drop i all) i y ≡ map f (take (suc i) all) ++ drop (suc i) all
set-walk f d y i [] lt is = absurd (omega arith)
set-walk f d y zero (x ∷ xs) lt is = ap (λ z. z ∷ xs) is
set-walk f d y (suc i) (x ∷ xs) lt is = ap (λ zs. f x ∷ zs) (set-walk f d y i xs (omega arith) is)

get-walk : {A : Type 0} (f : A → A) (d : A) (i : ℕ) (all : List A) → i < length all
    → get_or (map f (take i all) ++ drop i all) i d ≡ get_or all i d
get-walk f d i [] lt = absurd (omega arith)
get-walk f d zero (x ∷ xs) lt = refl
get-walk f d (suc i) (x ∷ xs) lt = get-walk f d i xs (omega arith)

-- one more is changed
pub set-each : {A : Type 0} (f : A → A) (i : ℕ) (all now : List A) (old new : A)
    → now ≡ map f (take i all) ++ drop i all
    → i < length all → old ≡ get_or now i old → new ≡ f old
    → slice_set now i new ≡ map f (take (i + 1) all) ++ drop (i + 1) all
set-each f i all now old new walked lt is made =
    ap (λ xs. slice_set xs i new) walked
    ∙ set-walk f old new i all lt (made ∙ ap f (is ∙ ap (λ xs. get_or xs i old) walked ∙ get-walk f old i all lt))
    ∙ (let e : suc i ≡ i + 1 = omega arith in ap (λ n. map f (take n all) ++ drop n all) e)

-- a walk keeps the length
pub walk-long : {A : Type 0} (f : A → A) (i : ℕ) (all now : List A) → now ≡ map f (take i all) ++ drop i all
    → length now ≡ length all
walk-long f i all now walked = ap length walked ∙ long f i all
  where
    long : {A : Type 0} (f : A → A) (i : ℕ) (all : List A) → length (map f (take i all) ++ drop i all) ≡ length all
    long f zero all = refl
    long f (suc i) [] = refl
    long f (suc i) (x ∷ xs) = ap suc (long f i xs)

pub walk-end : {A : Type 0} (f : A → A) (i : ℕ) (old : List A) → i ≡ length old
    → map f (take i old) ++ drop i old ≡ map f old
walk-end f i [] is = rw is refl
walk-end f zero (x ∷ xs) is = absurd (omega arith)
walk-end f (suc i) (x ∷ xs) is = ap (λ zs. f x ∷ zs) (walk-end f i xs (omega arith))

-- ---- a test of numbers in order

any-head : (test : ℕ → Bool) (i : ℕ) (rest : List ℕ) (b : Bool) → test i ≡ b
    → list_any test (i ∷ rest) ≡ (b || list_any test rest)
any-head test i rest b h = ap (λ b. b || list_any test rest) h

pub any-step : (test : ℕ → Bool) (i n : ℕ) (all : Bool) → i < n → test i ≡ false
    → list_any test (range_with_len i (n - i)) ≡ all → list_any test (range_with_len (i + 1) (n - (i + 1))) ≡ all
any-step test i n all lt is h =
    sym (ap (list_any test) (range-next i n lt) ∙ any-head test i (range_with_len (i + 1) (n - (i + 1))) false is) ∙ h

pub any-hit : (test : ℕ → Bool) (i n : ℕ) (all : Bool) → i < n → test i ≡ true
    → list_any test (range_with_len i (n - i)) ≡ all → all ≡ true
any-hit test i n all lt is h =
    sym h ∙ ap (list_any test) (range-next i n lt) ∙ any-head test i (range_with_len (i + 1) (n - (i + 1))) true is

pub any-none : (test : ℕ → Bool) (i n : ℕ) (all : Bool) → n ≤ i
    → list_any test (range_with_len i (n - i)) ≡ all → all ≡ false
any-none test i n all le h = sym h ∙ ap (list_any test) (range-none i n le)

-- ---- how many pass

pub count-put : (p : ℕ → Bool) (i n found : ℕ) (all : ℕ) → i < n → p i ≡ true
    → found + length (filter p (range_with_len i (n - i))) ≡ all
    → (found + 1) + length (filter p (range_with_len (i + 1) (n - (i + 1)))) ≡ all
count-put p i n found all lt is h =
    let e : length (filter p (range_with_len i (n - i))) ≡ suc (length (filter p (range_with_len (i + 1) (n - (i + 1)))))
    = ap length (ap (filter p) (range-next i n lt) ∙ filter-head p i (range_with_len (i + 1) (n - (i + 1))) true is) in
    omega (arith, e, h)

pub count-pass : (p : ℕ → Bool) (i n found : ℕ) (all : ℕ) → i < n → p i ≡ false
    → found + length (filter p (range_with_len i (n - i))) ≡ all
    → found + length (filter p (range_with_len (i + 1) (n - (i + 1)))) ≡ all
count-pass p i n found all lt is h =
    let e : length (filter p (range_with_len i (n - i))) ≡ length (filter p (range_with_len (i + 1) (n - (i + 1))))
    = ap length (ap (filter p) (range-next i n lt) ∙ filter-head p i (range_with_len (i + 1) (n - (i + 1))) false is) in
    omega (arith, e, h)

pub count-end : (p : ℕ → Bool) (i n found all : ℕ) → n ≤ i
    → found + length (filter p (range_with_len i (n - i))) ≡ all → found ≡ all
count-end p i n found all le h =
    let e : length (filter p (range_with_len i (n - i))) ≡ 0 = ap length (ap (filter p) (range-none i n le)) in
    omega (arith, e, h)

-- ---- the same, by what a test says

pub filter-step : (p : ℕ → Bool) (b : Bool) (i n : ℕ) (ys now all : List ℕ) → i < n → p i ≡ b
    → now ≡ ys ++ cond b (i ∷ []) [] → ys ++ filter p (range_with_len i (n - i)) ≡ all
    → now ++ filter p (range_with_len (i + 1) (n - (i + 1))) ≡ all
filter-step p true i n ys now all lt is put h =
    ap (λ xs. xs ++ filter p (range_with_len (i + 1) (n - (i + 1)))) put ∙ filter-put p i n ys all lt is h
filter-step p false i n ys now all lt is put h =
    ap (λ xs. xs ++ filter p (range_with_len (i + 1) (n - (i + 1)))) (put ∙ append-nil ys) ∙ filter-pass p i n ys all lt is h

filter-both : (p q : ℕ → Bool) (xs : List ℕ) → filter q (filter p xs) ≡ filter (λ i. p i && q i) xs
filter-both p q [] = refl
filter-both p q (x ∷ xs) = by (p x) (q x) refl (filter-both p q xs)
  where
    by : (a b : Bool) → q x ≡ b → filter q (filter p xs) ≡ filter (λ i. p i && q i) xs
        → filter q (cond a (x ∷ filter p xs) (filter p xs)) ≡ cond (a && b) (x ∷ filter (λ i. p i && q i) xs) (filter (λ i. p i && q i) xs)
    by true b is h = filter-head q x (filter p xs) b is ∙ ap (λ ys. cond b (x ∷ ys) ys) h
    by false b is h = h

pub filters-step : (p q : ℕ → Bool) (b : Bool) (i n : ℕ) (ys now all : List ℕ) → i < n → (p i && q i) ≡ b
    → now ≡ ys ++ cond b (i ∷ []) [] → ys ++ filter q (filter p (range_with_len i (n - i))) ≡ all
    → now ++ filter q (filter p (range_with_len (i + 1) (n - (i + 1)))) ≡ all
filters-step p q b i n ys now all lt is put h =
    ap (λ xs. now ++ xs) (filter-both p q (range_with_len (i + 1) (n - (i + 1))))
    ∙ filter-step (λ i. p i && q i) b i n ys now all lt is put
    (ap (λ xs. ys ++ xs) (sym (filter-both p q (range_with_len i (n - i)))) ∙ h)

pub filters-end : (p q : ℕ → Bool) (i n : ℕ) (ys all : List ℕ) → n ≤ i
    → ys ++ filter q (filter p (range_with_len i (n - i))) ≡ all → ys ≡ all
filters-end p q i n ys all le h =
    sym (append-nil ys) ∙ sym (ap (λ xs. ys ++ filter q (filter p xs)) (range-none i n le)) ∙ h

pub flat-step : {A : Type 0} (g : ℕ → List A) (i n : ℕ) (ys now all : List A) → i < n → now ≡ ys ++ g i
    → ys ++ flat_map g (range_with_len i (n - i)) ≡ all
    → now ++ flat_map g (range_with_len (i + 1) (n - (i + 1))) ≡ all
flat-step g i n ys now all lt put h =
    ap (λ xs. xs ++ flat_map g (range_with_len (i + 1) (n - (i + 1)))) put ∙ flat-put g i n ys all lt h

pub any-past : (chosen passes : ℕ → Bool) (i n : ℕ) (all : Bool) → i < n → (chosen i && passes i) ≡ false
    → any-chosen chosen passes (range_with_len i (n - i)) ≡ all
    → any-chosen chosen passes (range_with_len (i + 1) (n - (i + 1))) ≡ all
any-past chosen passes i n all lt is h =
    sym (any-next chosen passes i n lt ∙ ap (λ b. b || any-chosen chosen passes (range_with_len (i + 1) (n - (i + 1)))) is) ∙ h

-- a further number in order
range-more : (a n : ℕ) → range_with_len a (suc n) ≡ range_with_len a n ++ (a + n) ∷ []
range-more a zero = let e : a ≡ a + 0 = omega arith in ap (λ k. k ∷ []) e
range-more a (suc n) =
    let e : (a + 1) + n ≡ a + suc n = omega arith in
    ap (λ xs. a ∷ xs) (range-more (a + 1) n ∙ ap (λ k. range_with_len (a + 1) n ++ k ∷ []) e)

pub range-last : (n : ℕ) (ys : List ℕ) → ys ≡ range_with_len 0 n → ys ++ n ∷ [] ≡ range_with_len 0 (n + 1)
range-last n ys h =
    let e : n ≡ 0 + n = omega arith in
    let next : suc n ≡ n + 1 = omega arith in
    (λ i. h i ++ e i ∷ []) ∙ sym (range-more 0 n) ∙ ap (range_with_len 0) next

spread : {A : Type 0} (g : ℕ → A) (ks : List ℕ) (k : ℕ) → map g (ks ++ k ∷ []) ≡ map g ks ++ g k ∷ []
spread g [] k = refl
spread g (j ∷ ks) k = ap (λ ys. g j ∷ ys) (spread g ks k)

-- a further number of a list by number
pub map-last : {A : Type 0} (g : ℕ → A) (n : ℕ) (xs : List A) (x : A) → xs ≡ map g (range_with_len 0 n) → x ≡ g n
    → xs ++ x ∷ [] ≡ map g (range_with_len 0 (n + 1))
map-last g n xs x h is =
    (λ i. h i ++ is i ∷ []) ∙ sym (spread g (range_with_len 0 n) n) ∙ ap (map g) (range-last n (range_with_len 0 n) refl)
