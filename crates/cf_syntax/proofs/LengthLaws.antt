-- The blocks of a script whose numbers fit have fewer than 2^32 lines, and the block of a handler a number below 2^16.
use Rattle.std.proofs.Common.{◌≡◌, ℕ, zero, suc, ◌+◌, ◌*◌, ◌<◌, ◌≤◌, Bool, true, false, cond, ltb, List, [], ◌∷◌, length, map, take, Option, Some, None, refl, arith}
use Rattle.std.specs.Prelude.{IfSome, slice_get, option_and_then}
use Rattle.std.specs.List.{All}
use Rattle.std.proofs.lemmas.List.{length-append, length-map, length-drop}
use Rattle.std.proofs.lemmas.List.Elements.{All-head, All-tail, All-take, All-drop}
use Rattle.cf_syntax.specs.declared.script.Block.{Block}
use Rattle.cf_syntax.specs.declared.script.Given.{Given}
use Rattle.cf_syntax.specs.declared.script.Handler.{Handler}
use Rattle.cf_syntax.specs.declared.script.Parts.{Parts}
use Rattle.cf_syntax.specs.BlockLines.{says, claims_from, packs_from, packs_for, statements_in, uses_in, thread_blocks, after_threads, handler_block, thread_block, block_of_handler, thread_lines, handler_lines}
use Rattle.cf_syntax.specs.Numbered.{IsPlaced, FitsText, IsNumbered}

all_get : {A : Type 0} (P : A → Type 0) (xs : List A) (i : ℕ) → All P xs → IfSome (slice_get xs i) P
all_get P [] i h = tt
all_get P (x ∷ xs) zero h = All-head P x xs h
all_get P (x ∷ xs) (suc i) h = all_get P xs i (All-tail P x xs h)

-- ---- blocks

record Few (o : Option Block) : Type 0 where
  uses : length (uses_in o) ≤ 1048576
  statements : length (statements_in o) ≤ 1048576

no_block : Few None
no_block = record { uses = omega arith; statements = omega arith }

few_in : (o : Option Block) → IfSome o FitsText → Few o
few_in None h = no_block
few_in (Some b) h = record { uses = h.uses; statements = h.statements }

block_few : (s : Parts) (i : ℕ) → IsNumbered s → Few (slice_get s.blocks i)
block_few s i n = few_in (slice_get s.blocks i) (all_get FitsText s.blocks i n.blocks)

thread_few : (s : Parts) (t : ℕ) → IsNumbered s → Few (thread_block s t)
thread_few s t n = tested (ltb t s.thread_count)
  where
    tested : (b : Bool) → Few (cond b (slice_get s.blocks t) None)
    tested true = block_few s t n
    tested false = no_block

handler_few : (s : Parts) (h : ℕ) → IsNumbered s → Few (block_of_handler s h)
handler_few s h n = found (handler_block s h)
  where
    found : (o : Option ℕ) → Few (option_and_then (λ b. slice_get s.blocks b) o)
    found None = no_block
    found (Some b) = block_few s b n

-- ---- lines

claims_count : (k : ℕ) (us : List Given) → length (claims_from k us) ≡ length us
claims_count k [] = refl
claims_count k (u ∷ us) = omega (arith, claims_count (k + 1) us)

packs_count : (t k : ℕ) (us : List Given) → length (packs_from t k us) ≡ length us
packs_count t k [] = refl
packs_count t k (u ∷ us) = omega (arith, packs_count t (k + 1) us)

all_packs_count : (t : ℕ) (bs : List Block) → All FitsText bs → length (packs_for t bs) ≤ 1048576 * length bs
all_packs_count t [] h = omega arith
all_packs_count t (b ∷ bs) h =
    omega (arith, length-append (packs_from t 0 b.uses) (packs_for (t + 1) bs), packs_count t 0 b.uses, (All-head FitsText b bs h).uses, all_packs_count (t + 1) bs (All-tail FitsText b bs h))

take_count : {A : Type 0} (n : ℕ) (xs : List A) → length (take n xs) ≤ n
take_count zero xs = omega arith
take_count (suc n) [] = omega arith
take_count (suc n) (x ∷ xs) = omega (arith, take_count n xs)

setup_packs : (s : Parts) → IsNumbered s → length (packs_for 1 (thread_blocks s)) ≤ 67108864
setup_packs s n =
    let few = take_count s.thread_count s.blocks in
    let all = All-drop FitsText 1 (take s.thread_count s.blocks) (All-take FitsText s.thread_count s.blocks n.blocks) in
    omega (arith, all_packs_count 1 (thread_blocks s) all, few, n.threads, length-drop 1 (take s.thread_count s.blocks))

pub thread_lines_few : (s : Parts) (t : ℕ) → IsNumbered s → length (thread_lines s t) < 4294967296
thread_lines_few s zero n =
    omega (arith, length-append (map says (statements_in (slice_get s.blocks 0))) (packs_for 1 (thread_blocks s)), length-map (statements_in (slice_get s.blocks 0)) says, (block_few s 0 n).statements, setup_packs s n)
thread_lines_few s (suc t) n =
    let o = thread_block s (suc t) in
    omega (arith, length-append (claims_from 0 (uses_in o)) (map says (statements_in o)), claims_count 0 (uses_in o), length-map (statements_in o) says, (thread_few s (suc t) n).uses, (thread_few s (suc t) n).statements)

pub handler_lines_few : (s : Parts) (h : ℕ) → IsNumbered s → length (handler_lines s h) < 4294967296
handler_lines_few s h n =
    omega (arith, length-map (statements_in (block_of_handler s h)) says, (handler_few s h n).statements)

-- ---- the number of a handler's block

pub handler_below : (s : Parts) (h : ℕ) → IsNumbered s → IfSome (handler_block s h) (λ b. b < 65536)
handler_below s h n = found (slice_get s.handlers h) (all_get IsPlaced s.handlers h n.handlers)
  where
    after : (b : ℕ) (t : Bool) → b < 65536 → IfSome (cond t None (Some b)) (λ c. c < 65536)
    after b true lt = tt
    after b false lt = lt

    placed : (o : Option ℕ) → IfSome o (λ b. b < 65536) → IfSome (option_and_then (after_threads s) o) (λ b. b < 65536)
    placed None h = tt
    placed (Some b) h = after b (ltb b s.thread_count) h

    found : (o : Option Handler) → IfSome o IsPlaced
        → IfSome (option_and_then (λ (x : Handler). option_and_then (after_threads s) x.block) o) (λ b. b < 65536)
    found None h = tt
    found (Some x) h = placed x.block h
