-- Lines of blocks, by number.
use Rattle.std.proofs.Common.{◌≡◌, ℕ, zero, suc, ◌+◌, ◌-◌, ◌≤◌, ◌<◌, List, [], ◌∷◌, ◌++◌, length, map, Option, Some, None, refl, sym, ap, ◌∙◌, arith}
use Rattle.std.specs.Prelude.{slice_get}
use Rattle.std.specs.Option.{option_map}
use Rattle.cf_syntax.specs.declared.script.Given.{Given}
use Rattle.cf_syntax.specs.declared.script.Script.{Script}
use Rattle.cf_syntax.specs.declared.statement.Statement.{Statement}
use Rattle.cf_syntax.specs.BlockLines.{BlockLine, claims, says, packs, claims_from, packs_from, thread_lines, thread_block, uses_in, statements_in}

-- ---- two lists, one after the other

pub get-front : {A : Type 0} (xs ys : List A) (n : ℕ) (x : A) → slice_get xs n ≡ Some x
    → slice_get (xs ++ ys) n ≡ Some x
get-front [] ys n x h = cc
get-front (a ∷ xs) ys zero x h = h
get-front (a ∷ xs) ys (suc n) x h = get-front xs ys n x h

pub none-past : {A : Type 0} (xs : List A) (n : ℕ) → None ≡ slice_get xs n → length xs ≤ n
none-past [] n h = omega arith
none-past (x ∷ xs) zero h = cc
none-past (x ∷ xs) (suc n) h = omega (arith, none-past xs n h)

less-one : (n m : ℕ) → suc n - suc m ≡ n - m
less-one n m = omega arith

pub get-back : {A : Type 0} (xs ys : List A) (n : ℕ) → slice_get xs n ≡ None
    → slice_get (xs ++ ys) n ≡ slice_get ys (n - length xs)
get-back {A = A} [] ys n h = let e : n ≡ n - 0 = omega arith in ap (λ (k : ℕ). slice_get ys k) e
get-back (a ∷ xs) ys zero h = cc
get-back (a ∷ xs) ys (suc n) h =
    get-back xs ys n h ∙ ap (λ (k : ℕ). slice_get ys k) (sym (less-one n (length xs)))

pub get-map : {A : Type 0} {B : Type 0} (f : A → B) (xs : List A) (n : ℕ)
    → slice_get (map f xs) n ≡ option_map f (slice_get xs n)
get-map f [] n = refl
get-map f (x ∷ xs) zero = refl
get-map f (x ∷ xs) (suc n) = get-map f xs n

-- ---- what a thread claims, and what setup packs for it

claim_at : (k : ℕ) → Option Given → Option BlockLine
claim_at k u = option_map (λ (g : Given). claims k g.own) u

plus-suc : (k n : ℕ) → k + 1 + n ≡ k + suc n
plus-suc k n = omega arith

plus-zero : (k : ℕ) → k ≡ k + 0
plus-zero k = omega arith

pub get-claims : (k : ℕ) (us : List Given) (n : ℕ)
    → slice_get (claims_from k us) n ≡ option_map (λ (g : Given). claims (k + n) g.own) (slice_get us n)
get-claims k [] n = refl
get-claims k (u ∷ us) zero = ap (λ (m : ℕ). Some (claims m u.own)) (plus-zero k)
get-claims k (u ∷ us) (suc n) = get-claims (k + 1) us n ∙ ap (λ (m : ℕ). option_map (λ (g : Given). claims m g.own) (slice_get us n)) (plus-suc k n)

pub length-claims : (k : ℕ) (us : List Given) → length (claims_from k us) ≡ length us
length-claims k [] = refl
length-claims k (u ∷ us) = ap suc (length-claims (k + 1) us)

pub get-packs : (t k : ℕ) (us : List Given) (n : ℕ)
    → slice_get (packs_from t k us) n ≡ option_map (λ (g : Given). packs t (k + n) g.setup) (slice_get us n)
get-packs t k [] n = refl
get-packs t k (u ∷ us) zero = ap (λ (m : ℕ). Some (packs t m u.setup)) (plus-zero k)
get-packs t k (u ∷ us) (suc n) = get-packs t (k + 1) us n ∙ ap (λ (m : ℕ). option_map (λ (g : Given). packs t m g.setup) (slice_get us n)) (plus-suc k n)

pub length-packs : (t k : ℕ) (us : List Given) → length (packs_from t k us) ≡ length us
length-packs t k [] = refl
length-packs t k (u ∷ us) = ap suc (length-packs t (k + 1) us)

zero-plus : (n : ℕ) → 0 + n ≡ n
zero-plus n = omega arith

-- a line among the first, and one after them
pub claim-first : (us : List Given) (ys : List BlockLine) (n : ℕ) (u : Given) → slice_get us n ≡ Some u
    → slice_get (claims_from 0 us ++ ys) n ≡ Some (claims n u.own)
claim-first us ys n u h =
    get-front (claims_from 0 us) ys n (claims n u.own) (get-claims 0 us n ∙ ap (option_map (λ (g : Given). claims (0 + n) g.own)) h ∙ ap (λ (m : ℕ). Some (claims m u.own)) (zero-plus n))

pub claim-after : (us : List Given) (ys : List BlockLine) (n : ℕ) → slice_get us n ≡ None
    → slice_get (claims_from 0 us ++ ys) n ≡ slice_get ys (n - length us)
claim-after us ys n h =
    get-back (claims_from 0 us) ys n (get-claims 0 us n ∙ ap (option_map (λ (g : Given). claims (0 + n) g.own)) h)
    ∙ ap (λ (m : ℕ). slice_get ys (n - m)) (length-claims 0 us)

pub pack-first : (t : ℕ) (us : List Given) (ys : List BlockLine) (n : ℕ) (u : Given) → slice_get us n ≡ Some u
    → slice_get (packs_from t 0 us ++ ys) n ≡ Some (packs t n u.setup)
pack-first t us ys n u h =
    get-front (packs_from t 0 us) ys n (packs t n u.setup) (get-packs t 0 us n ∙ ap (option_map (λ (g : Given). packs t (0 + n) g.setup)) h ∙ ap (λ (m : ℕ). Some (packs t m u.setup)) (zero-plus n))

pub pack-after : (t : ℕ) (us : List Given) (ys : List BlockLine) (n : ℕ) → slice_get us n ≡ None
    → slice_get (packs_from t 0 us ++ ys) n ≡ slice_get ys (n - length us)
pack-after t us ys n h =
    get-back (packs_from t 0 us) ys n (get-packs t 0 us n ∙ ap (option_map (λ (g : Given). packs t (0 + n) g.setup)) h)
    ∙ ap (λ (m : ℕ). slice_get ys (n - m)) (length-packs t 0 us)

-- ---- lines of blocks

later-is : (s : Script) (t : ℕ) → 0 < t
    → thread_lines s t ≡ claims_from 0 (uses_in (thread_block s t)) ++ map says (statements_in (thread_block s t))
later-is s zero h = absurd (omega arith)
later-is s (suc t) h = refl

pub later-first : (s : Script) (t n : ℕ) (u : Given) (us : List Given) → 0 < t → us ≡ uses_in (thread_block s t)
    → Some u ≡ slice_get us n → Some (claims n u.own) ≡ slice_get (thread_lines s t) n
later-first s t n u us pos e h =
    sym (ap (λ (ls : List BlockLine). slice_get ls n) (later-is s t pos)
    ∙ claim-first (uses_in (thread_block s t)) (map says (statements_in (thread_block s t))) n u (ap (λ (vs : List Given). slice_get vs n) (sym e) ∙ sym h))

pub later-after : (s : Script) (t n : ℕ) (us : List Given) (xs : List Statement) → 0 < t
    → us ≡ uses_in (thread_block s t) → xs ≡ statements_in (thread_block s t) → None ≡ slice_get us n
    → slice_get (map says xs) (n - length us) ≡ slice_get (thread_lines s t) n
later-after s t n us xs pos e ex h =
    sym (ap (λ (ls : List BlockLine). slice_get ls n) (later-is s t pos)
    ∙ claim-after (uses_in (thread_block s t)) (map says (statements_in (thread_block s t))) n (ap (λ (vs : List Given). slice_get vs n) (sym e) ∙ sym h)
    ∙ ap (λ (vs : List Given). slice_get (map says (statements_in (thread_block s t))) (n - length vs)) (sym e)
    ∙ ap (λ (ys : List Statement). slice_get (map says ys) (n - length us)) (sym ex))
