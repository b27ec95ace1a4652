-- A numeral, digit by digit.
use Rattle.std.proofs.Common.{◌≡◌, inl, inr, ℕ, ◌+◌, ◌-◌, ◌*◌, ◌<◌, ◌≤◌, Bool, true, false, cond, not, List, [], ◌∷◌, length, drop, get_or, Option, Some, None, refl, ap, ◌∙◌, arith, eqb}
use Rattle.std.specs.Prelude.{◌&&◌, nat_lt, if◌then◌else◌}
use Rattle.std.specs.List.{list_all}
use Rattle.std.proofs.lemmas.Bool.{le-ltb, cases_Bool}
use Rattle.std.proofs.lemmas.Bool.Decides.{nat_tests}
use Rattle.std.proofs.lemmas.List.{drop_more}
use Rattle.cf_syntax.specs.Numbers.{is_digit, decimal_from, number_below}

-- the number that digits write after those of n, where it is below a limit
abbrev pub below : ℕ → ℕ → List ℕ → Option ℕ
below limit n ds = if list_all is_digit ds && nat_lt (decimal_from n ds) limit then Some (decimal_from n ds) else None

grows : (n : ℕ) (ds : List ℕ) → n ≤ decimal_from n ds
grows n [] = omega arith
grows n (d ∷ ds) = omega (arith, grows (n * 10 + (d - 48)) ds)

neither : (t u : Bool) (n : ℕ) → u ≡ false → cond (t && u) (Some n) None ≡ None
neither true u n e = rw e refl
neither false u n e = refl

-- a number that has passed the limit
too_large : (limit n : ℕ) (ds : List ℕ) → limit ≤ n → below limit n ds ≡ None
too_large limit n ds large = neither (list_all is_digit ds) (nat_lt (decimal_from n ds) limit) (decimal_from n ds) (le-ltb (decimal_from n ds) limit (omega (arith, grows n ds)))

no_digit : (t u v : Bool) (n : ℕ) → t ≡ false → cond ((t && u) && v) (Some n) None ≡ None
no_digit true u v n e = absurd cc
no_digit false u v n e = refl

one_digit : (t u v : Bool) (o : Option ℕ) → t ≡ true → cond ((t && u) && v) o None ≡ cond (u && v) o None
one_digit true u v o e = refl
one_digit false u v o e = absurd cc

not_empty : (t u v : Bool) (o : Option ℕ) → t ≡ false → cond (u && v) o None ≡ cond ((not t && u) && v) o None
not_empty true u v o e = absurd cc
not_empty false u v o e = refl

-- a numeral, as the digits after those of 0
pub below_start : (limit : ℕ) (word : List ℕ) → 0 < length word → below limit 0 word ≡ number_below limit word
below_start limit word some =
    not_empty (eqb (length word) 0) (list_all is_digit word) (nat_lt (decimal_from 0 word) limit) (Some (decimal_from 0 word)) (grind (arith, nat_tests))

pub below_digit : (limit n i : ℕ) (word : List ℕ) → i < length word → is_digit (get_or word i 0) ≡ true
    → below limit n (drop i word) ≡ below limit (n * 10 + (get_or word i 0 - 48)) (drop (i + 1) word)
below_digit limit n i word lt e =
    let b = get_or word i 0 in
    let m : ℕ = n * 10 + (b - 48) in
    let rest = drop (i + 1) word in
    ap (below limit n) (drop_more word i 0 lt) ∙ one_digit (is_digit b) (list_all is_digit rest) (nat_lt (decimal_from m rest) limit) (Some (decimal_from m rest)) e

pub below_no_digit : (limit n i : ℕ) (word : List ℕ) → i < length word → is_digit (get_or word i 0) ≡ false
    → below limit n (drop i word) ≡ None
below_no_digit limit n i word lt e =
    let b = get_or word i 0 in
    let m : ℕ = n * 10 + (b - 48) in
    let rest = drop (i + 1) word in
    ap (below limit n) (drop_more word i 0 lt) ∙ no_digit (is_digit b) (list_all is_digit rest) (nat_lt (decimal_from m rest) limit) (decimal_from m rest) e

pub below_large : (limit n i : ℕ) (word : List ℕ) → i < length word → is_digit (get_or word i 0) ≡ true
    → limit ≤ n * 10 + (get_or word i 0 - 48) → below limit n (drop i word) ≡ None
below_large limit n i word lt e large = below_digit limit n i word lt e ∙ too_large limit (n * 10 + (get_or word i 0 - 48)) (drop (i + 1) word) large

pub below_over : (limit n i : ℕ) (word : List ℕ) → i < length word → limit ≤ n * 10
    → below limit n (drop i word) ≡ None
below_over limit n i word lt large =
    elim (cases_Bool (is_digit (get_or word i 0))) [ inl t ↦ below_large limit n i word lt t (omega arith) | inr f ↦ below_no_digit limit n i word lt f ]

pub digit_found : (t : Bool) (n d : ℕ) → cond t (Some n) None ≡ Some d → (t ≡ true) × (n ≡ d)
digit_found true n d e = (refl, cc)
digit_found false n d e = absurd cc
