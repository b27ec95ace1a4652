-- How changes of a list that is kept by number move a bit of the one of number s.
use Rattle.std.proofs.Common.{◌≡◌, ℕ, Bool, true, false, ◌&&◌, ◌||◌, not, cond, List, Option, Some, None, is_some, option_map, refl, ◌∙◌, subst, arith, ◌==◌}
use Rattle.std.specs.Option.{option_map_or}
use Rattle.std.proofs.lemmas.Bool.Decides.{nat_tests}
use Rattle.rl_base.specs.Numbered.{kept_at, kept_with, changed_at}
use Rattle.rl_base.proofs.NumberedLemmas.{kept_at-with, kept_at-changed}

as_left : (v : Bool) → v ≡ (false || (v && not false))
as_left v = grind arith

as_taken : (v : Bool) → false ≡ (false || (v && not true))
as_taken v = grind arith

from_none : {A : Type 0} (o : Option A) → not (is_some o) ≡ true → o ≡ None
from_none None h = refl
from_none (Some x) h = cc

module _ {X : Type 0} (number : X → ℕ) (bit : X → Bool) (s : ℕ) where
  abbrev bit_in : Option X → Bool
  bit_in o = option_map_or bit o false

  -- the bit of the one of number s
  abbrev bit_at : List X → Bool
  bit_at xs = bit_in (kept_at number s xs)

  -- a new one has the bit
  pub bit_at-made : (x : X) (xs : List X) → not (is_some (kept_at number (number x) xs)) ≡ true → bit x ≡ true →
      bit_at (kept_with number x xs) ≡ ((number x == s) || (bit_at xs && not false))
  bit_at-made x xs absent h =
      rw (kept_at-with number s x xs (from_none _ absent)) (at_test (number x == s) (kept_at number s xs)) where
        at_test : (t : Bool) (o : Option X) → bit_in (cond t (Some x) o) ≡ (t || (bit_in o && not false))
        at_test true o = h
        at_test false o = as_left (bit_in o)

  -- a new one has it not
  pub bit_at-unmade : (x : X) (xs : List X) → not (is_some (kept_at number (number x) xs)) ≡ true → bit x ≡ false →
      bit_at (kept_with number x xs) ≡ (false || (bit_at xs && not false))
  bit_at-unmade x xs absent h =
      rw
      (kept_at-with number s x xs (from_none _ absent))
      (at_test
      (number x == s)
      (kept_at number s xs)
      (λ e. let same : number x ≡ s = grind (arith, nat_tests) in
      subst (λ n. kept_at number n xs ≡ None) same (from_none _ absent))) where
        at_test : (t : Bool) (o : Option X) → (t ≡ true → o ≡ None) →
            bit_in (cond t (Some x) o) ≡ (false || (bit_in o && not false))
        at_test true o none = rw (none refl) h
        at_test false o none = as_left (bit_in o)

  module _ (n : ℕ) (change : X → X) (keeps : (x : X) → number (change x) ≡ number x) where
    -- a change sets the bit of one that is there
    pub bit_at-set : ((x : X) → bit (change x) ≡ true) → (xs : List X) → is_some (kept_at number n xs) ≡ true →
        bit_at (changed_at number n change xs) ≡ ((n == s) || (bit_at xs && not false))
    bit_at-set sets xs there =
        rw
        (kept_at-changed number change s n keeps xs)
        (at_test
        (n == s)
        (kept_at number s xs)
        (λ e. let same : n ≡ s = grind (arith, nat_tests) in
        subst (λ m. is_some (kept_at number m xs) ≡ true) same there)) where
          at_test : (t : Bool) (o : Option X) → (t ≡ true → is_some o ≡ true) →
              bit_in (cond t (option_map change o) o) ≡ (t || (bit_in o && not false))
          at_test true (Some x) some = sets x
          at_test true None some = let wrong : false ≡ true = some refl in cc
          at_test false o some = as_left (bit_in o)

    -- a change takes the bit
    pub bit_at-taken : ((x : X) → bit (change x) ≡ false) → (xs : List X) →
        bit_at (changed_at number n change xs) ≡ (false || (bit_at xs && not (n == s)))
    bit_at-taken takes xs =
        rw (kept_at-changed number change s n keeps xs) (at_test (n == s) (kept_at number s xs)) where
          at_test : (t : Bool) (o : Option X)
              → bit_in (cond t (option_map change o) o) ≡ (false || (bit_in o && not t))
          at_test true (Some x) = takes x ∙ as_taken (bit x)
          at_test true None = refl
          at_test false o = as_left (bit_in o)

    -- a change leaves the bit
    pub bit_at-kept : ((x : X) → bit (change x) ≡ bit x) → (xs : List X) →
        bit_at (changed_at number n change xs) ≡ (false || (bit_at xs && not false))
    bit_at-kept leaves xs =
        rw (kept_at-changed number change s n keeps xs) (at_test (n == s) (kept_at number s xs)) where
          at_test :
              (t : Bool) (o : Option X) →
              bit_in (cond t (option_map change o) o) ≡ (false || (bit_in o && not false))
          at_test true (Some x) = leaves x ∙ as_left (bit x)
          at_test true None = refl
          at_test false o = as_left (bit_in o)

-- one that has a bit is there
pub some_from_bit : {X : Type 0} (bit : X → Bool) (o : Option X) → option_map_or bit o false ≡ true → is_some o ≡ true
some_from_bit bit None h = cc
some_from_bit bit (Some x) h = refl
