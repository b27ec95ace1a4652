-- What setup packs: one line for each place of each thread's parcel, and no other block has such a line.
use Rattle.std.proofs.Common.{◌≡◌, ℕ, zero, suc, ◌+◌, ◌<◌, ◌∙◌, ◌∷◌, Bool, true, List, [], map, length, take, Option, Some, None, refl, sym, ap, subst, ltb, cond, arith}
use Rattle.std.specs.Prelude.{slice_get}
use Rattle.std.proofs.lemmas.Bool.Decides.{nat_tests}
use Rattle.cf_syntax.specs.declared.statement.Statement.{Statement}
use Rattle.cf_syntax.specs.declared.script.Script.{Script}
use Rattle.cf_syntax.specs.declared.script.Block.{Block}
use Rattle.cf_syntax.specs.declared.script.Given.{Given}
use Rattle.cf_syntax.specs.BlockLines.{BlockLine, begins, claims, says, packs, claims_from, packs_from, packs_for, statements_in, uses_in, thread_blocks, thread_block, block_of_handler, setup_lines, thread_lines, handler_lines}
use Rattle.cf_syntax.specs.Packs.{IsWithin}
use Rattle.cf_syntax.proofs.BlockLaws.{past_first}
use Rattle.cf_syntax.proofs.StageLaws.{AllLines, lines_append, said_lines, one_more, no_lines}

-- ---- lines that pack nothing

abbrev pub NoPack : BlockLine → Type 0
NoPack (packs u k v) = ⊥
NoPack _ = Unit {0}

pub said_pack_nothing : (xs : List Statement) → AllLines NoPack (map says xs)
said_pack_nothing xs = said_lines NoPack xs (λ n x e. tt)

claims_pack_nothing : (k : ℕ) (us : List Given) → AllLines NoPack (claims_from k us)
claims_pack_nothing k [] = no_lines NoPack
claims_pack_nothing k (u ∷ us) = one_more NoPack (claims k u.own) (claims_from (k + 1) us) tt (claims_pack_nothing (k + 1) us)

pub threads_pack_nothing : (s : Script) (t : ℕ) → AllLines NoPack (thread_lines s (suc t))
threads_pack_nothing s t =
    lines_append NoPack (claims_from 0 (uses_in (thread_block s (suc t)))) (map says (statements_in (thread_block s (suc t))))
    (claims_pack_nothing 0 (uses_in (thread_block s (suc t)))) (said_pack_nothing (statements_in (thread_block s (suc t))))

pub handlers_pack_nothing : (s : Script) (h : ℕ) → AllLines NoPack (handler_lines s h)
handlers_pack_nothing s h =
    one_more NoPack (begins 0) (map says (statements_in (block_of_handler s h))) tt (said_pack_nothing (statements_in (block_of_handler s h)))

-- ---- places that are packed

-- what a line packs is for a thread after setup, for one of the places of its parcel
abbrev pub PacksWithin : Script → BlockLine → Type 0
PacksWithin s (packs u k v) = IsWithin s u k
PacksWithin s _ = Unit {0}

-- the place is that of a word from a place on
places_within : (P : BlockLine → Type 0) (u k : ℕ) (us : List Given)
    → ((i : ℕ) (v : Option ℕ) → i < length us → P (packs u (k + i) v)) → AllLines P (packs_from u k us)
places_within P u k [] h = no_lines P
places_within P u k (x ∷ us) h =
    one_more P (packs u k x.setup) (packs_from u (k + 1) us) (subst (λ (m : ℕ). P (packs u m x.setup)) (omega arith) (h 0 x.setup (omega arith)))
    (places_within P u (k + 1) us (λ i v lt. subst (λ (m : ℕ). P (packs u m v)) (omega arith) (h (i + 1) v (omega (arith, lt)))))

blocks_within : (P : BlockLine → Type 0) (u : ℕ) (bs : List Block)
    → ((i k : ℕ) (b : Block) (v : Option ℕ) → slice_get bs i ≡ Some b → k < length b.uses → P (packs (u + i) k v))
    → AllLines P (packs_for u bs)
blocks_within P u [] h = no_lines P
blocks_within P u (b ∷ bs) h =
    lines_append P (packs_from u 0 b.uses) (packs_for (u + 1) bs)
    (places_within P u 0 b.uses (λ i v lt. subst (λ (m : ℕ). P (packs m (0 + i) v)) (omega arith) (h 0 (0 + i) b v refl (omega (arith, lt)))))
    (blocks_within P (u + 1) bs (λ i k c v e lt. subst (λ (m : ℕ). P (packs m k v)) (omega arith) (h (suc i) k c v e lt)))

in_take : {A : Type 0} (n i : ℕ) (xs : List A) (x : A) → slice_get (take n xs) i ≡ Some x
    → (i < n) × (slice_get xs i ≡ Some x)
in_take zero i xs x e = absurd cc
in_take (suc n) i [] x e = absurd cc
in_take (suc n) zero (y ∷ xs) x e = (omega arith, e)
in_take (suc n) (suc i) (y ∷ xs) x e = let p = in_take n i xs x e in (omega (arith, p.0), p.1)

thread_within : (s : Script) (i k : ℕ) (b : Block) → slice_get (thread_blocks s) i ≡ Some b → k < length b.uses
    → IsWithin s (1 + i) k
thread_within s i k b e lt =
    let p = in_take s.thread_count (suc i) s.blocks b (sym (past_first i (take s.thread_count s.blocks)) ∙ e) in
    let is : thread_block s (suc i) ≡ Some b = ap (λ (t : Bool). cond t (slice_get s.blocks (suc i)) None) (less (suc i) s.thread_count p.0) ∙ p.1 in
    subst (λ (u : ℕ). IsWithin s u k) (omega arith)
    (record { thread = p.0; after_setup = omega arith; place = subst (λ (o : Option Block). k < length (uses_in o)) (sym is) lt })
  where
    less : (m n : ℕ) → m < n → ltb m n ≡ true
    less m n h = grind (arith, nat_tests)

setup_within : (s : Script) → AllLines (PacksWithin s) (setup_lines s)
setup_within s =
    lines_append (PacksWithin s) (map says (statements_in (slice_get s.blocks 0))) (packs_for 1 (thread_blocks s))
    (said_lines (PacksWithin s) (statements_in (slice_get s.blocks 0)) (λ n x e. tt))
    (blocks_within (PacksWithin s) 1 (thread_blocks s) (λ i k b v e lt. thread_within s i k b e lt))

pub packs_within : (s : Script) (n u k : ℕ) (v : Option ℕ) → slice_get (setup_lines s) n ≡ Some (packs u k v)
    → IsWithin s u k
packs_within s n u k v e = setup_within s n (packs u k v) e

-- ---- places that are claimed

abbrev ClaimsWithin : ℕ → BlockLine → Type 0
ClaimsWithin n (claims k v) = k < n
ClaimsWithin n _ = Unit {0}

claim_places : (n k : ℕ) (us : List Given) → k + length us ≡ n → AllLines (ClaimsWithin n) (claims_from k us)
claim_places n k [] e = no_lines (ClaimsWithin n)
claim_places n k (u ∷ us) e =
    one_more (ClaimsWithin n) (claims k u.own) (claims_from (k + 1) us) (omega (arith, e)) (claim_places n (k + 1) us (omega (arith, e)))

pack_claims_nothing : (n u k : ℕ) (us : List Given) → AllLines (ClaimsWithin n) (packs_from u k us)
pack_claims_nothing n u k us = places_within (ClaimsWithin n) u k us (λ i v lt. tt)

claimed : (s : Script) (t : ℕ) → AllLines (ClaimsWithin (length (uses_in (thread_block s t)))) (thread_lines s t)
claimed s zero =
    let n = length (uses_in (thread_block s 0)) in
    lines_append (ClaimsWithin n) (map says (statements_in (slice_get s.blocks 0))) (packs_for 1 (thread_blocks s))
    (said_lines (ClaimsWithin n) (statements_in (slice_get s.blocks 0)) (λ m x e. tt))
    (blocks_within (ClaimsWithin n) 1 (thread_blocks s) (λ i k b v e lt. tt))
claimed s (suc t) =
    let us = uses_in (thread_block s (suc t)) in
    let xs = statements_in (thread_block s (suc t)) in
    lines_append (ClaimsWithin (length us)) (claims_from 0 us) (map says xs)
    (claim_places (length us) 0 us (omega arith)) (said_lines (ClaimsWithin (length us)) xs (λ m x e. tt))

pub claims_within : (s : Script) (t n k v : ℕ) → slice_get (thread_lines s t) n ≡ Some (claims k v)
    → k < length (uses_in (thread_block s t))
claims_within s t n k v e = claimed s t n (claims k v) e
