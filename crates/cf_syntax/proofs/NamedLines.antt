-- What a line of a block says names a thread and a mode of the script, where its numbers fit.
use Rattle.std.proofs.Common.{◌≡◌, ℕ, zero, suc, ◌+◌, Bool, true, false, cond, ltb, List, [], ◌∷◌, length, map, Option, Some, None, refl, subst}
use Rattle.std.specs.Prelude.{slice_get, option_and_then}
use Rattle.std.specs.List.{All}
use Rattle.std.proofs.lemmas.List.Elements.{All-head, All-tail}
use Rattle.cf_syntax.specs.declared.statement.Statement.{Statement}
use Rattle.cf_syntax.specs.declared.script.Block.{Block}
use Rattle.cf_syntax.specs.declared.script.Given.{Given}
use Rattle.cf_syntax.specs.declared.script.Parts.{Parts}
use Rattle.cf_syntax.specs.BlockLines.{BlockLine, begins, claims, says, packs, claims_from, packs_from, packs_for, statements_in, uses_in, thread_blocks, handler_block, thread_block, block_of_handler, thread_lines, handler_lines}
use Rattle.cf_syntax.specs.Numbered.{ThreadsNamed, ModesNamed, NamesThread, NamesMode, NamesOwn, IsNumbered}
use Rattle.cf_syntax.proofs.StageLaws.{AllLines, lines_append, one_more, no_lines, said_lines}

element : {A : Type 0} (P : A → Type 0) (xs : List A) (n : ℕ) (x : A) → All P xs → slice_get xs n ≡ Some x → P x
element P [] n x h e = absurd cc
element P (y ∷ xs) zero x h e = let same : y ≡ x = cc in subst P same (All-head P y xs h)
element P (y ∷ xs) (suc n) x h e = element P xs n x (All-tail P y xs h) e

module _ (s : Parts) (numbered : IsNumbered s) where
  abbrev IsNamed : BlockLine → Type 0
  IsNamed (says x) = NamesOwn s x
  IsNamed _ = Unit {0}

  -- the statements of a block
  abbrev AllOwn : List Statement → Type 0
  AllOwn xs = (n : ℕ) (x : Statement) → slice_get xs n ≡ Some x → NamesOwn s x

  nothing_said : AllOwn []
  nothing_said n x e = absurd cc

  block_own : (b : ℕ) → AllOwn (statements_in (slice_get s.blocks b))
  block_own b = found (slice_get s.blocks b) (λ x e. element (ThreadsNamed s.thread_count) s.blocks b x numbered.named e)
      (λ x e. element (ModesNamed (length s.modes)) s.blocks b x numbered.modes.named e)
    where
      found : (o : Option Block) → ((x : Block) → o ≡ Some x → ThreadsNamed s.thread_count x)
          → ((x : Block) → o ≡ Some x → ModesNamed (length s.modes) x) → AllOwn (statements_in o)
      found None threads modes = nothing_said
      found (Some x) threads modes = λ n y e. record {
        thread = element (NamesThread s.thread_count) x.statements n y (threads x refl) e;
        mode = element (NamesMode (length s.modes)) x.statements n y (modes x refl) e;
      }

  thread_own : (t : ℕ) → AllOwn (statements_in (thread_block s t))
  thread_own t = by (ltb t s.thread_count)
    where
      by : (b : Bool) → AllOwn (statements_in (cond b (slice_get s.blocks t) None))
      by true = block_own t
      by false = nothing_said

  handler_own : (o : Option ℕ) → AllOwn (statements_in (option_and_then (λ b. slice_get s.blocks b) o))
  handler_own None = nothing_said
  handler_own (Some b) = block_own b

  claims_named : (k : ℕ) (us : List Given) → AllLines IsNamed (claims_from k us)
  claims_named k [] = no_lines IsNamed
  claims_named k (u ∷ us) = one_more IsNamed (claims k u.own) (claims_from (k + 1) us) tt (claims_named (k + 1) us)

  packs_named : (t k : ℕ) (us : List Given) → AllLines IsNamed (packs_from t k us)
  packs_named t k [] = no_lines IsNamed
  packs_named t k (u ∷ us) = one_more IsNamed (packs t k u.setup) (packs_from t (k + 1) us) tt (packs_named t (k + 1) us)

  all_packs_named : (t : ℕ) (bs : List Block) → AllLines IsNamed (packs_for t bs)
  all_packs_named t [] = no_lines IsNamed
  all_packs_named t (b ∷ bs) =
      lines_append IsNamed (packs_from t 0 b.uses) (packs_for (t + 1) bs) (packs_named t 0 b.uses) (all_packs_named (t + 1) bs)

  said_named : (xs : List Statement) → AllOwn xs → AllLines IsNamed (map says xs)
  said_named xs own = said_lines IsNamed xs own

  thread_named : (t : ℕ) → AllLines IsNamed (thread_lines s t)
  thread_named zero =
      lines_append IsNamed (map says (statements_in (slice_get s.blocks 0))) (packs_for 1 (thread_blocks s))
      (said_named (statements_in (slice_get s.blocks 0)) (block_own 0)) (all_packs_named 1 (thread_blocks s))
  thread_named (suc t) =
      lines_append IsNamed (claims_from 0 (uses_in (thread_block s (suc t)))) (map says (statements_in (thread_block s (suc t))))
      (claims_named 0 (uses_in (thread_block s (suc t)))) (said_named (statements_in (thread_block s (suc t))) (thread_own (suc t)))

  handler_named : (h : ℕ) → AllLines IsNamed (handler_lines s h)
  handler_named h =
      let xs = statements_in (block_of_handler s h) in
      one_more IsNamed (begins 0) (map says xs) tt (said_named xs (handler_own (handler_block s h)))

pub thread_names_own : (s : Parts) (t n : ℕ) (x : Statement) → IsNumbered s
    → slice_get (thread_lines s t) n ≡ Some (says x) → NamesOwn s x
thread_names_own s t n x numbered e = thread_named s numbered t n (says x) e

pub handler_names_own : (s : Parts) (h n : ℕ) (x : Statement) → IsNumbered s
    → slice_get (handler_lines s h) n ≡ Some (says x) → NamesOwn s x
handler_names_own s h n x numbered e = handler_named s numbered h n (says x) e
