-- A statement among the lines of a frame stands in the frame's block, at the line's number less the lines before.
use Rattle.std.proofs.Common.{◌≡◌, ℕ, zero, suc, ◌+◌, ◌-◌, Bool, true, false, cond, List, [], ◌∷◌, ◌++◌, map, length, Option, Some, None, ltb, ap, arith}
use Rattle.std.specs.Prelude.{slice_get, option_and_then}
use Rattle.cf_syntax.specs.declared.script.Script.{Script}
use Rattle.cf_syntax.specs.declared.script.Block.{Block}
use Rattle.cf_syntax.specs.declared.script.Given.{Given}
use Rattle.cf_syntax.specs.declared.statement.Statement.{Statement}
use Rattle.cf_syntax.specs.BlockLines.{BlockLine, begins, claims, says, packs, claims_from, packs_from, packs_for, statements_in, uses_in, thread_blocks, thread_block, handler_block, block_of_handler, thread_lines, handler_lines}
use Rattle.cf_next.specs.Demands.{frame_lines}
use Rattle.cf_next.specs.Next.{lines_before, block_of, number_or}
use Rattle.cf_next.specs.Stands.{Kind, of_block, of_handler, of_run}

-- ---- lines that are no statements

abbrev IsNoStatement : BlockLine → Type 0
IsNoStatement (says x) = ⊥
IsNoStatement _ = Unit {0}

abbrev NoStatements : List BlockLine → Type 0
NoStatements [] = Unit {0}
NoStatements (y ∷ ys) = IsNoStatement y × NoStatements ys

none_said : (ys : List BlockLine) (n : ℕ) (x : Statement) → NoStatements ys → slice_get ys n ≡ Some (says x) → ⊥
none_said [] n x h e = absurd cc
none_said (begins v ∷ ys) zero x h e = absurd cc
none_said (claims k v ∷ ys) zero x h e = absurd cc
none_said (packs u k v ∷ ys) zero x h e = absurd cc
none_said (says y ∷ ys) zero x h e = absurd h.0
none_said (y ∷ ys) (suc n) x h e = none_said ys n x h.1 e

no_statements_more : (xs ys : List BlockLine) → NoStatements xs → NoStatements ys → NoStatements (xs ++ ys)
no_statements_more [] ys h k = k
no_statements_more (x ∷ xs) ys h k = (h.0, no_statements_more xs ys h.1 k)

packs_no_statements : (t k : ℕ) (us : List Given) → NoStatements (packs_from t k us)
packs_no_statements t k [] = tt
packs_no_statements t k (u ∷ us) = (tt, packs_no_statements t (k + 1) us)

packs_none : (t : ℕ) (bs : List Block) → NoStatements (packs_for t bs)
packs_none t [] = tt
packs_none t (b ∷ bs) = no_statements_more (packs_from t 0 b.uses) (packs_for (t + 1) bs) (packs_no_statements t 0 b.uses) (packs_none (t + 1) bs)

-- ---- statements among lines

same_statement : (x y : Statement) → ◌≡◌ {A = Option BlockLine} (Some (says y)) (Some (says x))
    → ◌≡◌ {A = Option Statement} (Some y) (Some x)
same_statement x y e = let same : y ≡ x = cc in ap (λ (z : Statement). Some z) same

among_says : (xs : List Statement) (ys : List BlockLine) (n : ℕ) (x : Statement) → NoStatements ys
    → slice_get (map says xs ++ ys) n ≡ Some (says x) → slice_get xs n ≡ Some x
among_says [] ys n x h e = absurd (none_said ys n x h e)
among_says (y ∷ xs) ys zero x h e = same_statement x y e
among_says (y ∷ xs) ys (suc n) x h e = among_says xs ys n x h e

in_says : (xs : List Statement) (n : ℕ) (x : Statement) → slice_get (map says xs) n ≡ Some (says x)
    → slice_get xs n ≡ Some x
in_says [] n x e = absurd cc
in_says (y ∷ xs) zero x e = same_statement x y e
in_says (y ∷ xs) (suc n) x e = in_says xs n x e

past_claims : (k : ℕ) (us : List Given) (ys : List BlockLine) (n : ℕ) (x : Statement)
    → slice_get (claims_from k us ++ ys) n ≡ Some (says x) → slice_get ys (n - length us) ≡ Some (says x)
past_claims k [] ys n x e = let same : n - 0 ≡ n = omega arith in rw same e
past_claims k (u ∷ us) ys zero x e = absurd cc
past_claims k (u ∷ us) ys (suc n) x e = let same : suc n - suc (length us) ≡ n - length us = omega arith in rw same (past_claims (k + 1) us ys n x e)

-- ---- the statement of a frame's line

pub block_statement : (s : Script) (b n : ℕ) (x : Statement) → slice_get (thread_lines s b) n ≡ Some (says x)
    → slice_get (statements_in (slice_get s.blocks b)) (n - lines_before s of_block b) ≡ Some x
block_statement s zero n x e =
    let same : n - 0 ≡ n = omega arith in
    rw same (among_says (statements_in (slice_get s.blocks 0)) (packs_for 1 (thread_blocks s)) n x (packs_none 1 (thread_blocks s)) e)
block_statement s (suc b) n x e =
    let block = thread_block s (suc b) in
    by (ltb (suc b) s.thread_count) (in_says (statements_in block) (n - length (uses_in block)) x (past_claims 0 (uses_in block) (map says (statements_in block)) n x e))
  where
    by : (there : Bool)
        → slice_get (statements_in (cond there (slice_get s.blocks (suc b)) None)) (n - length (uses_in (thread_block s (suc b)))) ≡ Some x
        → slice_get (statements_in (slice_get s.blocks (suc b))) (n - length (uses_in (thread_block s (suc b)))) ≡ Some x
    by true h = h
    by false h = absurd cc

handler_statement : (s : Script) (h n : ℕ) (x : Statement) → slice_get (handler_lines s h) n ≡ Some (says x)
    → slice_get (statements_in (slice_get s.blocks (number_or (handler_block s h)))) (n - 1) ≡ Some x
handler_statement s h zero x e = absurd cc
handler_statement s h (suc n) x e = let same : suc n - 1 ≡ n = omega arith in rw same (by (handler_block s h) (in_says (statements_in (block_of_handler s h)) n x e))
  where
    by : (b : Option ℕ) → slice_get (statements_in (option_and_then (λ b. slice_get s.blocks b) b)) n ≡ Some x
        → slice_get (statements_in (slice_get s.blocks (number_or b))) n ≡ Some x
    by None e = absurd cc
    by (Some b) e = e

pub frame_statement : (s : Script) (k : Kind) (b n : ℕ) (x : Statement) → slice_get (frame_lines s k b) n ≡ Some (says x)
    → slice_get (statements_in (slice_get s.blocks (block_of s k b))) (n - lines_before s k b) ≡ Some x
frame_statement s of_block b n x e = block_statement s b n x e
frame_statement s (of_handler k) h n x e = handler_statement s h n x e
frame_statement s (of_run r) b n x e = absurd cc
