-- The objects that a statement uses, by place; and whether a run is among frames.
use Rattle.std.proofs.Common.{◌≡◌, ℕ, zero, suc, ◌<◌, Bool, true, false, cond, List, [], ◌∷◌, length, get_or, Option, Some, None, refl, sym, ap, ◌∙◌, arith}
use Rattle.std.specs.Option.{option_map, is_some}
use Rattle.cf_syntax.specs.Mentions.{used_at}
use Rattle.cf_next.specs.Stands.{Frame, Kind, of_block, of_handler, of_run, Turn, has_run, is_run}
use Rattle.cf_next.specs.Standing.{innermost_run, run_or}

pub used-read : (used : List (Option ℕ)) (k : ℕ) (o : Option ℕ) → k < length used → o ≡ get_or used k o
    → o ≡ used_at used k
used-read [] k o lt is = absurd (omega arith)
used-read (x ∷ xs) zero o lt is = is
used-read (x ∷ xs) (suc k) o lt is = used-read xs k o (omega arith) is

-- the mode of the innermost run is there exactly if there is a run
pub runs-here : (fs : List Frame) → is_some (option_map (λ (r : Turn). r.mode) (innermost_run fs)) ≡ has_run fs
runs-here [] = refl
runs-here (f ∷ fs) = by f.kind (runs-here fs)
  where
    by : (k : Kind) → is_some (option_map (λ (r : Turn). r.mode) (innermost_run fs)) ≡ has_run fs
        → is_some (option_map (λ (r : Turn). r.mode) (run_or k (innermost_run fs))) ≡ cond (is_run k) true (has_run fs)
    by of_block h = h
    by (of_handler c) h = h
    by (of_run r) h = refl
