-- What lines retain, one after another.
use Rattle.std.proofs.Common.{◌≡◌, ℕ, zero, suc, ◌<◌, true, false, List, [], ◌∷◌, drop, length, Option, Some, None, refl, arith}
use Rattle.std.specs.Prelude.{is_some, slice_get}
use Rattle.std.specs.Option.{option_and_then}
use Rattle.cf_syntax.specs.BlockLines.{BlockLine}
use Rattle.cf_next.specs.Stands.{Binding}
use Rattle.cf_next.specs.Ahead.{retain_of, while_some, lines_ahead}

pub ahead-first : (bs : List Binding) (ls : List BlockLine) (n : ℕ)
    → slice_get (lines_ahead bs (drop n ls)) 0 ≡ option_and_then (retain_of bs) (slice_get ls n)
ahead-first bs [] zero = refl
ahead-first bs [] (suc n) = refl
ahead-first bs (x ∷ ls) zero = by (retain_of bs x)
  where
    by : (o : Option ℕ) → slice_get (while_some o (lines_ahead bs ls)) 0 ≡ o
    by None = refl
    by (Some o) = refl
ahead-first bs (x ∷ ls) (suc n) = ahead-first bs ls n

pub ahead-next : (bs : List Binding) (ls : List BlockLine) (n left : ℕ)
    → is_some (option_and_then (retain_of bs) (slice_get ls n)) ≡ true
    → slice_get (lines_ahead bs (drop n ls)) (suc left) ≡ slice_get (lines_ahead bs (drop (suc n) ls)) left
ahead-next bs [] zero left h = cc
ahead-next bs [] (suc n) left h = cc
ahead-next bs (x ∷ ls) zero left h = by (retain_of bs x) h
  where
    by : (o : Option ℕ) → is_some o ≡ true
        → slice_get (while_some o (lines_ahead bs ls)) (suc left) ≡ slice_get (lines_ahead bs ls) left
    by None h = cc
    by (Some o) h = refl
ahead-next bs (x ∷ ls) (suc n) left h = ahead-next bs ls n left h

pub ahead-none : (bs : List Binding) (ls : List BlockLine) (n left : ℕ)
    → is_some (option_and_then (retain_of bs) (slice_get ls n)) ≡ false
    → slice_get (lines_ahead bs (drop n ls)) left ≡ None
ahead-none bs [] zero left h = refl
ahead-none bs [] (suc n) left h = refl
ahead-none bs (x ∷ ls) zero left h = by (retain_of bs x) h
  where
    by : (o : Option ℕ) → is_some o ≡ false → slice_get (while_some o (lines_ahead bs ls)) left ≡ None
    by None h = refl
    by (Some o) h = cc
ahead-none bs (x ∷ ls) (suc n) left h = ahead-none bs ls n left h

pub ahead-within : (bs : List Binding) (ls : List BlockLine) (n : ℕ)
    → is_some (option_and_then (retain_of bs) (slice_get ls n)) ≡ true → n < length ls
ahead-within bs [] n h = cc
ahead-within bs (x ∷ ls) zero h = omega arith
ahead-within bs (x ∷ ls) (suc n) h = omega (arith, ahead-within bs ls n h)
