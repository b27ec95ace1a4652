-- Sums over lines.
use Rattle.std.proofs.Common.{◌≡◌, ℕ, ◌+◌, ◌≤◌, Bool, true, false, cond, eqb, List, [], ◌∷◌, ◌++◌, length, ap, ◌∙◌, sym, add_assoc, arith}
use Rattle.cf_syntax.specs.declared.mention.Ownership.{Ownership}
use Rattle.cf_syntax.specs.declared.mention.Ownership.TheVariants.{Keeps, Binds, Retains, Releases}
use Rattle.cf_syntax.specs.BlockLines.{BlockLine, line_ownership}
use Rattle.cf_syntax.specs.Owned.{total, bound_by, given_by, released_by}

-- lines after lines
pub total_append : (f : Ownership → ℕ) (xs ys : List BlockLine) → total f (xs ++ ys) ≡ total f xs + total f ys
total_append f [] ys = omega arith
total_append f (x ∷ xs) ys = omega (arith, total_append f xs ys)

-- one line more
pub total_push : (f : Ownership → ℕ) (ss : List BlockLine) (s : BlockLine)
    → total f (ss ++ s ∷ []) ≡ total f ss + f (line_ownership s)
total_push f [] s = omega arith
total_push f (t ∷ ss) s = ap (λ (n : ℕ). f (line_ownership t) + n) (total_push f ss s)
    ∙ sym (add_assoc (f (line_ownership t)) (total f ss) (f (line_ownership s)))

one_le : (t : Bool) → cond t 1 0 ≤ 1
one_le true = omega arith
one_le false = omega arith

pub bound_by_le : (v : ℕ) (t : Ownership) → bound_by v t ≤ 1
bound_by_le v Keeps = omega arith
bound_by_le v (Binds w) = one_le (eqb v w)
bound_by_le v (Retains w) = omega arith
bound_by_le v (Releases w) = omega arith

pub given_by_le : (v : ℕ) (t : Ownership) → given_by v t ≤ 1
given_by_le v Keeps = omega arith
given_by_le v (Binds w) = one_le (eqb v w)
given_by_le v (Retains w) = one_le (eqb v w)
given_by_le v (Releases w) = omega arith

pub taken_by_le : (v : ℕ) (t : Ownership) → released_by v t ≤ 1
taken_by_le v Keeps = omega arith
taken_by_le v (Binds w) = omega arith
taken_by_le v (Retains w) = omega arith
taken_by_le v (Releases w) = one_le (eqb v w)

-- a sum of numbers that are at most 1
pub total_le : (f : Ownership → ℕ) (small : (t : Ownership) → f t ≤ 1) (ss : List BlockLine) → total f ss ≤ length ss
total_le f small [] = omega arith
total_le f small (s ∷ ss) = omega (arith, small (line_ownership s), total_le f small ss)
