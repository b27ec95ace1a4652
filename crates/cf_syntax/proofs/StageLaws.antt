-- The lines of a script whose statements are of the forms that the reader takes.
use Rattle.std.proofs.Common.{◌≡◌, ℕ, zero, suc, ◌+◌, Bool, true, false, List, [], ◌∷◌, ◌++◌, map, Option, Some, None, refl, subst, ltb, cond}
use Rattle.std.specs.Prelude.{slice_get, option_and_then}
use Rattle.cf_syntax.specs.declared.statement.Statement.{Statement}
use Rattle.cf_syntax.specs.declared.script.Script.{Script}
use Rattle.cf_syntax.specs.declared.script.Block.{Block}
use Rattle.cf_syntax.specs.declared.script.Given.{Given}
use Rattle.cf_syntax.specs.BlockLines.{BlockLine, begins, claims, says, packs, claims_from, packs_from, packs_for, statements_in, uses_in, thread_blocks, handler_block, thread_block, thread_lines, handler_lines}
use Rattle.cf_syntax.specs.Stage.{is_of_stage, IsOfStage}

-- each line of a list
abbrev pub AllLines : (BlockLine → Type 0) → List BlockLine → Type 0
AllLines P xs = (n : ℕ) (y : BlockLine) → slice_get xs n ≡ Some y → P y

-- a line of a thread's block: a claim, a statement that the reader takes, or a word that setup packs
abbrev pub IsThreadLine : BlockLine → Type 0
IsThreadLine (begins v) = ⊥
IsThreadLine (claims k v) = Unit {0}
IsThreadLine (says x) = is_of_stage x ≡ true
IsThreadLine (packs u k v) = Unit {0}

line_is : (x y : BlockLine) → ◌≡◌ {A = Option BlockLine} (Some x) (Some y) → x ≡ y
line_is x y e = cc

pub lines_append : (P : BlockLine → Type 0) (xs ys : List BlockLine) → AllLines P xs → AllLines P ys
    → AllLines P (xs ++ ys)
lines_append P [] ys a b n y e = b n y e
lines_append P (x ∷ xs) ys a b zero y e = a zero y e
lines_append P (x ∷ xs) ys a b (suc n) y e = lines_append P xs ys (λ m z q. a (suc m) z q) b n y e

pub one_more : (P : BlockLine → Type 0) (x : BlockLine) (xs : List BlockLine) → P x → AllLines P xs
    → AllLines P (x ∷ xs)
one_more P x xs here rest zero y e = subst P (line_is x y e) here
one_more P x xs here rest (suc n) y e = rest n y e

pub no_lines : (P : BlockLine → Type 0) → AllLines P []
no_lines P n y e = absurd cc

pub said_lines : (P : BlockLine → Type 0) (xs : List Statement)
    → ((n : ℕ) (x : Statement) → slice_get xs n ≡ Some x → P (says x)) → AllLines P (map says xs)
said_lines P [] h = no_lines P
said_lines P (x ∷ xs) h = one_more P (says x) (map says xs) (h zero x refl) (said_lines P xs (λ n z q. h (suc n) z q))

claim_lines : (k : ℕ) (us : List Given) → AllLines IsThreadLine (claims_from k us)
claim_lines k [] = no_lines IsThreadLine
claim_lines k (u ∷ us) = one_more IsThreadLine (claims k u.own) (claims_from (k + 1) us) tt (claim_lines (k + 1) us)

pack_lines : (t k : ℕ) (us : List Given) → AllLines IsThreadLine (packs_from t k us)
pack_lines t k [] = no_lines IsThreadLine
pack_lines t k (u ∷ us) = one_more IsThreadLine (packs t k u.setup) (packs_from t (k + 1) us) tt (pack_lines t (k + 1) us)

all_packs : (t : ℕ) (bs : List Block) → AllLines IsThreadLine (packs_for t bs)
all_packs t [] = no_lines IsThreadLine
all_packs t (b ∷ bs) = lines_append IsThreadLine (packs_from t 0 b.uses) (packs_for (t + 1) bs) (pack_lines t 0 b.uses) (all_packs (t + 1) bs)

abbrev AllOfStage : Option Block → Type 0
AllOfStage o = (n : ℕ) (x : Statement) → slice_get (statements_in o) n ≡ Some x → is_of_stage x ≡ true

nothing_said : AllOfStage None
nothing_said n x e = absurd cc

thread_statements : (s : Script) (t : ℕ) → IsOfStage s → AllOfStage (thread_block s t)
thread_statements s t of = by (ltb t s.thread_count)
  where
    by : (b : Bool) → AllOfStage (cond b (slice_get s.blocks t) None)
    by true = λ n x e. of t n x e
    by false = nothing_said

pub thread_line : (s : Script) (t : ℕ) → IsOfStage s → AllLines IsThreadLine (thread_lines s t)
thread_line s zero of =
    lines_append IsThreadLine (map says (statements_in (slice_get s.blocks 0))) (packs_for 1 (thread_blocks s))
    (said_lines IsThreadLine (statements_in (slice_get s.blocks 0)) (λ n x e. of 0 n x e)) (all_packs 1 (thread_blocks s))
thread_line s (suc t) of =
    lines_append IsThreadLine (claims_from 0 (uses_in (thread_block s (suc t)))) (map says (statements_in (thread_block s (suc t))))
    (claim_lines 0 (uses_in (thread_block s (suc t)))) (said_lines IsThreadLine (statements_in (thread_block s (suc t))) (thread_statements s (suc t) of))

-- what a line says is of a form that the reader takes
abbrev pub SaysOfStage : BlockLine → Type 0
SaysOfStage (says x) = is_of_stage x ≡ true
SaysOfStage _ = Unit {0}

handler_statements : (s : Script) (o : Option ℕ) → IsOfStage s → (n : ℕ) (x : Statement)
    → slice_get (statements_in (option_and_then (λ b. slice_get s.blocks b) o)) n ≡ Some x → is_of_stage x ≡ true
handler_statements s None of = nothing_said
handler_statements s (Some b) of = λ n x e. of b n x e

pub handler_line : (s : Script) (h : ℕ) → IsOfStage s → AllLines SaysOfStage (handler_lines s h)
handler_line s h of =
    let xs = statements_in (option_and_then (λ b. slice_get s.blocks b) (handler_block s h)) in
    one_more SaysOfStage (begins 0) (map says xs) tt (said_lines SaysOfStage xs (handler_statements s (handler_block s h) of))
