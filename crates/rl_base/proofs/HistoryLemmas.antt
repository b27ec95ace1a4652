-- That a bit which each call moves as it should is what the history says, and that of calls which may be refused the
-- accepted ones alone count.
use Rattle.std.proofs.Common.{◌≡◌, Bool, true, false, ◌&&◌, ◌||◌, not, cond, List, [], ◌∷◌, ◌++◌, refl, ap, ◌∙◌, arith}
use Rattle.std.specs.Prelude.{fold}
use Rattle.std.specs.List.{list_any}
use Rattle.std.proofs.lemmas.List.Folds.{list_any-append}
use Rattle.rl_base.specs.History.{holds_since, AllAccepted, left_by, accepted_of}

by_parts : (b e l a h : Bool) → (h || ((b || (l && not e)) && not a)) ≡ (((b && not a) || h) || (l && not (e || a)))
by_parts b e l a h = grind arith

by_halves : (b a y h k : Bool) → ((b && not (a || y)) || (k || (h && not y))) ≡ (k || (((b && not a) || h) && not y))
by_halves b a y h k = grind arith

at_end : (l : Bool) → l ≡ (false || (l && not false))
at_end l = grind arith

from_nothing : (h l a : Bool) → l ≡ false → (h || (l && not a)) ≡ h
from_nothing h l a e = grind arith

-- what two histories say, one after the other
module _ {X : Type 0} (begins ends : X → Bool) where
  pub holds_since-append : (xs ys : List X) →
      holds_since begins ends (xs ++ ys)
      ≡ (holds_since begins ends ys || (holds_since begins ends xs && not (list_any ends ys)))
  holds_since-append [] ys = grind arith
  holds_since-append (x ∷ xs) ys =
      rw (list_any-append ends xs ys, holds_since-append xs ys)
      (by_halves (begins x) (list_any ends xs) (list_any ends ys) (holds_since begins ends xs)
      (holds_since begins ends ys))

module _ {S X : Type 0} (accepts : S → X → Bool) (after : S → X → S) where
  -- each accepted call moves the bit: it sets it, or takes it, or leaves it
  abbrev pub IsMoved : (S → Bool) → (begins ends : X → Bool) → Type 0
  IsMoved bit begins ends =
      (s : S) (x : X) → accepts s x ≡ true → bit (after s x) ≡ (begins x || (bit s && not (ends x)))

  bit_of_history : (bit : S → Bool) (begins ends : X → Bool) → IsMoved bit begins ends → (s : S) (xs : List X) →
      AllAccepted accepts after s xs →
      bit (fold after s xs) ≡ (holds_since begins ends xs || (bit s && not (list_any ends xs)))
  bit_of_history bit begins ends moved s [] h = at_end (bit s)
  bit_of_history bit begins ends moved s (x ∷ xs) h =
      bit_of_history bit begins ends moved (after s x) xs h.1
      ∙ ap (λ b. holds_since begins ends xs || (b && not (list_any ends xs))) (moved s x h.0)
      ∙ by_parts (begins x) (ends x) (bit s) (list_any ends xs) (holds_since begins ends xs)

  -- a bit that is not set at first is what the history of accepted calls says
  pub bit_after : (bit : S → Bool) (begins ends : X → Bool) → IsMoved bit begins ends → (s : S) → bit s ≡ false →
      (xs : List X) → AllAccepted accepts after s xs → bit (fold after s xs) ≡ holds_since begins ends xs
  bit_after bit begins ends moved s e xs h =
      bit_of_history bit begins ends moved s xs h
      ∙ from_nothing (holds_since begins ends xs) (bit s) (list_any ends xs) e

  all_accepted : (s : S) (xs : List X) → AllAccepted accepts after s (accepted_of accepts after s xs)
  all_accepted s [] = tt
  all_accepted s (x ∷ xs) = at_test (accepts s x) refl (all_accepted (after s x) xs) (all_accepted s xs) where
    at_test : (b : Bool) → accepts s x ≡ b →
        AllAccepted accepts after (after s x) (accepted_of accepts after (after s x) xs) →
        AllAccepted accepts after s (accepted_of accepts after s xs) →
        AllAccepted
        accepts
        after
        s
        (cond b (x ∷ accepted_of accepts after (after s x) xs) (accepted_of accepts after s xs))
    at_test true e taken refused = (e, taken)
    at_test false e taken refused = refused

  left-accepted : (s : S) (xs : List X) →
      fold (left_by accepts after) s xs ≡ fold after s (accepted_of accepts after s xs)
  left-accepted s [] = refl
  left-accepted s (x ∷ xs) = at_test (accepts s x) (left-accepted (after s x) xs) (left-accepted s xs) where
    at_test : (b : Bool) →
        fold (left_by accepts after) (after s x) xs
        ≡ fold after (after s x) (accepted_of accepts after (after s x) xs) →
        fold (left_by accepts after) s xs ≡ fold after s (accepted_of accepts after s xs) →
        fold (left_by accepts after) (cond b (after s x) s) xs
        ≡ fold after s (cond b (x ∷ accepted_of accepts after (after s x) xs) (accepted_of accepts after s xs))
    at_test true taken refused = taken
    at_test false taken refused = refused

  -- and where calls may be refused, what the history of the accepted ones says
  pub bit_left : (bit : S → Bool) (begins ends : X → Bool) → IsMoved bit begins ends → (s : S) → bit s ≡ false →
      (xs : List X) →
      bit (fold (left_by accepts after) s xs) ≡ holds_since begins ends (accepted_of accepts after s xs)
  bit_left bit begins ends moved s e xs =
      rw (left-accepted s xs)
      (bit_after bit begins ends moved s e (accepted_of accepts after s xs) (all_accepted s xs))
