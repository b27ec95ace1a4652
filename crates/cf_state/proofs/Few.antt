-- The place after a slot that is left has a number.
use Rattle.std.proofs.Common.{◌≡◌, ℕ, ◌+◌, ◌<◌, ◌≤◌, ◌^◌, Bool, true, false, cond, List, [], ◌∷◌, length, Option, Some, None, slice_get, refl, sym, ◌∙◌, arith, nat_lt, subst}
use Rattle.std.specs.Prelude.{IfSome, ◌==◌, ◌&&◌}
use Rattle.std.proofs.lemmas.Bool.{eqb-true}
use Rattle.cf_contents.specs.Contents.{slots_at, times}
use Rattle.cf_model.specs.Known.{slot_left}
use Rattle.cf_model.specs.State.{Parts}

times-few : (n : ℕ) (ms : List ℕ) → times n ms ≤ length ms
times-few n [] = omega arith
times-few n (m ∷ ms) = by (m == n) (times-few n ms)
  where
    by : (b : Bool) → times n ms ≤ length ms → cond b 1 0 + times n ms ≤ length (m ∷ ms)
    by true h = omega arith
    by false h = omega arith

low : (a b : Bool) (k n : ℕ) (o : Option ℕ) → (b ≡ true → k ≡ n) → n ≤ 4294967294
    → IfSome (cond (a && b) o None) (λ _. k + 1 < 2 ^ 32)
low true true k n None same few = tt
low true true k n (Some o) same few = let e : k ≡ n = same refl in omega (arith, e)
low true false k n o same few = tt
low false b k n o same few = tt

pub slot-low : (p : Parts) (b k : ℕ) (found : Option ℕ) → found ≡ slot_left p b k → length p.dropped ≤ 4294967294
    → IfSome found (λ _. k + 1 < 2 ^ 32)
slot-low p b k found is few =
    subst (λ o. IfSome o (λ _. k + 1 < 2 ^ 32)) (sym is)
    (low (nat_lt 0 (times b p.finalised)) (k == times b p.dropped) k (times b p.dropped) (slice_get (slots_at (slice_get p.objects b)) k)
    (eqb-true k (times b p.dropped)) (omega (arith, times-few b p.dropped)))
