-- The blocks of an owned script, each by itself.
use Rattle.std.proofs.Common.{◌≡◌, ℕ, zero, suc, ◌+◌, ◌-◌, ◌<◌, ◌≤◌, Bool, true, false, cond, eqb, ltb, List, [], ◌∷◌, ◌++◌, map, drop, take, Option, Some, None, refl, ap, sym, ◌∙◌, arith, append_assoc, append-nil, inl, inr, ◌⊎◌, subst}
use Rattle.std.specs.Prelude.{slice_get, option_and_then}
use Rattle.std.specs.List.{list_all}
use Rattle.std.proofs.lemmas.Bool.{eqb-true, ltb-true, ltb-false, cases_Bool, and_parts}
use Rattle.cf_syntax.specs.declared.statement.Statement.{Statement}
use Rattle.cf_syntax.specs.declared.mention.Ownership.{Ownership}
use Rattle.cf_syntax.specs.declared.mention.Ownership.TheVariants.{Keeps, Binds, Retains, Releases}
use Rattle.cf_syntax.specs.declared.script.Script.{Script}
use Rattle.cf_syntax.specs.declared.script.Block.{Block}
use Rattle.cf_syntax.specs.declared.script.Given.{Given}
use Rattle.cf_syntax.specs.declared.script.Handler.{Handler}
use Rattle.cf_syntax.specs.declared.refusal.Reason.{Reason}
use Rattle.cf_syntax.specs.BlockLines.{BlockLine, begins, claims, says, packs, line_ownership, claims_from, packs_from, packs_for, after_threads, statements_in, uses_in, thread_blocks, handler_blocks, setup_lines, thread_lines}
use Rattle.cf_syntax.specs.Owned.{one_of, given, released, given_by, released_by, or_else, unbound_fault, unowned_fault, rebound_fault, line_fault, lines_fault, on_line, statements_fault, given_fault, uses_fault, thread_block_fault, threads_fault, handler_fault, is_settled, balance_fault, handlers_fault, setup_fault, Owned, IsBalanced, FitsByBlock}

-- ---- faults that are none

pub none_first : {A : Type 0} (a b : Option A) → or_else a b ≡ None → (a ≡ None) × (b ≡ None)
none_first None b e = (refl, e)
none_first (Some x) b e = absurd cc

none_both : {A : Type 0} (a b : Option A) → a ≡ None → b ≡ None → or_else a b ≡ None
none_both None b p q = q
none_both (Some x) b p q = absurd cc

none_on : (line : ℕ) (o : Option Reason) → on_line line o ≡ None → o ≡ None
none_on line None e = refl
none_on line (Some r) e = absurd cc

-- lines after earlier ones of their block fit: none has a fault
abbrev BlockFits : Script → List BlockLine → List BlockLine → Type 0
BlockFits s earlier xs = lines_fault s earlier xs ≡ None

none_fit : (s : Script) (earlier : List BlockLine) → BlockFits s earlier []
none_fit s earlier = refl

-- lines after lines
lines_both : (s : Script) (earlier xs ys : List BlockLine) → BlockFits s earlier xs → BlockFits s (earlier ++ xs) ys
    → BlockFits s earlier (xs ++ ys)
lines_both s earlier [] ys p q = ap (λ (e : List BlockLine). lines_fault s e ys) (sym (append-nil earlier)) ∙ q
lines_both s earlier (x ∷ xs) ys p q =
    let h = none_first (line_fault s earlier x) (lines_fault s (earlier ++ x ∷ []) xs) p in
    none_both (line_fault s earlier x) _ h.0
    (lines_both s (earlier ++ x ∷ []) xs ys h.1
    (ap (λ (e : List BlockLine). lines_fault s e ys) (append_assoc earlier (x ∷ []) xs) ∙ q))

-- statements, whatever their lines
statements_none : (s : Script) (earlier : List BlockLine) (numbers : List ℕ) (xs : List Statement)
    → statements_fault s earlier numbers xs ≡ None → BlockFits s earlier (map says xs)
statements_none s earlier numbers [] e = refl
statements_none s earlier numbers (x ∷ xs) e =
    let h = none_first (on_line _ (line_fault s earlier (says x))) (statements_fault s (earlier ++ says x ∷ []) (drop 1 numbers) xs) e in
    none_both (line_fault s earlier (says x)) _ (none_on _ _ h.0) (statements_none s (earlier ++ says x ∷ []) (drop 1 numbers) xs h.1)

-- ---- threads

-- what the words after `uses` cannot have: no fault as setup's lines, and none as the thread's
uses_none : (s : Script) (setup own : List BlockLine) (thread place line : ℕ) (us : List Given)
    → uses_fault setup own thread place line us ≡ None
    → (lines_fault s setup (packs_from thread place us) ≡ None) × (lines_fault s own (claims_from place us) ≡ None)
uses_none s setup own thread place line [] e = (refl, refl)
uses_none s setup own thread place line (u ∷ us) e =
    let h = none_first (on_line line (given_fault setup own u.setup u.own)) (uses_fault (setup ++ packs thread place u.setup ∷ []) (own ++ claims place u.own ∷ []) thread (place + 1) line us) e in
    let g = given_none s setup own u.setup u.own thread place (none_on line _ h.0) in
    let more = uses_none s (setup ++ packs thread place u.setup ∷ []) (own ++ claims place u.own ∷ []) thread (place + 1) line us h.1 in (
      none_both (line_fault s setup (packs thread place u.setup)) _ g.0 more.0,
      none_both (line_fault s own (claims place u.own)) _ g.1 more.1,
    )
  where
    one : (o : Option Reason) → o ≡ None → or_else o None ≡ None
    one o e = none_both o None e refl

    given_none : (s : Script) (setup own : List BlockLine) (v : Option ℕ) (w thread place : ℕ)
        → given_fault setup own v w ≡ None
        → (line_fault s setup (packs thread place v) ≡ None) × (line_fault s own (claims place w) ≡ None)
    given_none s setup own None w thread place e = absurd cc
    given_none s setup own (Some v) w thread place e =
        let a = none_first (unbound_fault setup v) _ e in
        let b = none_first (rebound_fault own w) (unowned_fault setup v) a.1 in
        (one _ (none_both (unbound_fault setup v) _ a.0 b.1), one _ b.0)

abbrev FitsThread : Script → Option Block → Type 0
FitsThread s o = BlockFits s [] (claims_from 0 (uses_in o) ++ map says (statements_in o))

-- each thread's block, by its number after the one that the list begins with
pub threads_none : (s : Script) (setup : List BlockLine) (thread : ℕ) (bs : List Block)
    → threads_fault s setup thread bs ≡ None
    → BlockFits s setup (packs_for thread bs) × ((i : ℕ) → FitsThread s (slice_get bs i))
threads_none s setup thread [] e = (none_fit s setup, λ i. none_fit s [])
threads_none s setup thread (b ∷ bs) e =
    let k = none_first (thread_block_fault s setup thread b) (threads_fault s (setup ++ packs_from thread 0 b.uses) (thread + 1) bs) e in
    let h = none_first (uses_fault setup [] thread 0 b.first b.uses) (statements_fault s (claims_from 0 b.uses) b.lines b.statements) k.0 in
    let here = uses_none s setup [] thread 0 b.first b.uses h.0 in
    let rest = threads_none s (setup ++ packs_from thread 0 b.uses) (thread + 1) bs k.1 in (
      lines_both s setup (packs_from thread 0 b.uses) (packs_for (thread + 1) bs) here.0 rest.0,
      λ i. each i (lines_both s [] (claims_from 0 b.uses) (map says b.statements) here.1 (statements_none s (claims_from 0 b.uses) b.lines b.statements h.1)) rest.1,
    )
  where
    each : (i : ℕ) → FitsThread s (Some b) → ((j : ℕ) → FitsThread s (slice_get bs j))
        → FitsThread s (slice_get (b ∷ bs) i)
    each zero here rest = here
    each (suc j) here rest = rest j

-- ---- a thread, by its number

take_within : {A : Type 0} (n i : ℕ) (xs : List A) → i < n → slice_get (take n xs) i ≡ slice_get xs i
take_within zero i xs lt = absurd (omega arith)
take_within (suc n) i [] lt = refl
take_within (suc n) zero (x ∷ xs) lt = refl
take_within (suc n) (suc i) (x ∷ xs) lt = take_within n i xs (omega arith)

pub past_first : {A : Type 0} (i : ℕ) (xs : List A) → slice_get (drop 1 xs) i ≡ slice_get xs (suc i)
past_first i [] = refl
past_first i (x ∷ xs) = refl

-- the block of a thread after setup, by its number
pub thread_place : (s : Script) (t : ℕ) → suc t < s.thread_count
    → slice_get (thread_blocks s) t ≡ slice_get s.blocks (suc t)
thread_place s t lt = past_first t (take s.thread_count s.blocks) ∙ take_within s.thread_count (suc t) s.blocks lt

chosen : (s : Script) (t : Bool) (o : Option Block) → (t ≡ true → FitsThread s o) → FitsThread s (cond t o None)
chosen s true o fits = fits refl
chosen s false o fits = none_fit s []

-- ---- handlers

record FitsHandler (s : Script) (o : Option Block) : Type 0 where
  lines : BlockFits s [] (begins 0 ∷ map says (statements_in o))
  balance : balance_fault (begins 0 ∷ map says (statements_in o)) ≡ None

no_handler : (s : Script) → FitsHandler s None
no_handler s = record { lines = refl; balance = refl }

handlers_none : (s : Script) (bs : List Block) (i : ℕ) → handlers_fault s bs ≡ None → FitsHandler s (slice_get bs i)
handlers_none s [] i e = no_handler s
handlers_none s (b ∷ bs) i e =
    let k = none_first (handler_fault s b) (handlers_fault s bs) e in
    let h = none_first (statements_fault s (begins 0 ∷ []) b.lines b.statements) (on_line b.last (balance_fault (begins 0 ∷ map says b.statements))) k.0 in
    each i (record {
      lines = statements_none s (begins 0 ∷ []) b.lines b.statements h.0;
      balance = none_on b.last _ h.1;
    }) (λ j. handlers_none s bs j k.1)
  where
    each : (i : ℕ) → FitsHandler s (Some b) → ((j : ℕ) → FitsHandler s (slice_get bs j))
        → FitsHandler s (slice_get (b ∷ bs) i)
    each zero here rest = here
    each (suc j) here rest = rest j

drop_past : {A : Type 0} (n b : ℕ) (xs : List A) → n ≤ b → slice_get xs b ≡ slice_get (drop n xs) (b - n)
drop_past zero b xs le = let e : b - 0 ≡ b = omega arith in rw e refl
drop_past (suc n) zero xs le = absurd (omega arith)
drop_past (suc n) (suc b) [] le = refl
drop_past (suc n) (suc b) (x ∷ xs) le =
    let e : suc b - suc n ≡ b - n = omega arith in drop_past n b xs (omega arith) ∙ ap (slice_get (drop n xs)) (sym e)

-- a block that stands after those of threads
placed_after : (s : Script) (b : ℕ) → ((i : ℕ) → FitsHandler s (slice_get (handler_blocks s) i))
    → FitsHandler s (option_and_then (λ c. slice_get s.blocks c) (after_threads s b))
placed_after s b fits = tested (ltb b s.thread_count) (λ e. ltb-false b s.thread_count e)
  where
    tested : (t : Bool) → (t ≡ false → s.thread_count ≤ b)
        → FitsHandler s (option_and_then (λ c. slice_get s.blocks c) (cond t None (Some b)))
    tested true le = no_handler s
    tested false le = subst (FitsHandler s) (sym (drop_past s.thread_count b s.blocks (le refl))) (fits (b - s.thread_count))

found_block : (s : Script) (o : Option ℕ) → ((i : ℕ) → FitsHandler s (slice_get (handler_blocks s) i))
    → FitsHandler s (option_and_then (λ c. slice_get s.blocks c) (option_and_then (after_threads s) o))
found_block s None fits = no_handler s
found_block s (Some b) fits = placed_after s b fits

found_handler : (s : Script) (o : Option Handler) → ((i : ℕ) → FitsHandler s (slice_get (handler_blocks s) i))
    → FitsHandler s (option_and_then (λ c. slice_get s.blocks c)
    (option_and_then (λ (x : Handler). option_and_then (after_threads s) x.block) o))
found_handler s None fits = no_handler s
found_handler s (Some h) fits = found_block s h.block fits

-- ---- the balance of a handler

-- a variable is settled, or a line does nothing to it
abbrev Settled : List BlockLine → ℕ → ℕ → ℕ → Type 0
Settled xs v g t = (given v xs ≡ released v xs + one_of v 0) ⊎ ((g ≡ 0) × (t ≡ 0))

settled_by : (xs : List BlockLine) (v w : ℕ) (g t : Bool → ℕ)
    → g false ≡ 0 → t false ≡ 0 → eqb (given w xs) (released w xs + one_of w 0) ≡ true
    → Settled xs v (g (eqb v w)) (t (eqb v w))
settled_by xs v w g t g0 t0 e = elim (cases_Bool (eqb v w)) [
  | inl same ↦ inl (subst (λ (u : ℕ). given u xs ≡ released u xs + one_of u 0) (sym (eqb-true v w same)) (eqb-true _ _ e))
  | inr other ↦ inr (ap g other ∙ g0, ap t other ∙ t0)
]

settled_one : (xs : List BlockLine) (v : ℕ) (o : Ownership) → is_settled xs o ≡ true
    → Settled xs v (given_by v o) (released_by v o)
settled_one xs v Keeps e = inr (refl, refl)
settled_one xs v (Binds w) e = settled_by xs v w (λ b. cond b 1 0) (λ b. 0) refl refl e
settled_one xs v (Retains w) e = settled_by xs v w (λ b. cond b 1 0) (λ b. 0) refl refl e
settled_one xs v (Releases w) e = settled_by xs v w (λ b. 0) (λ b. cond b 1 0) refl refl e

settled_all : (xs ys : List BlockLine) (v : ℕ) → list_all (λ x. is_settled xs (line_ownership x)) ys ≡ true
    → Settled xs v (given v ys) (released v ys)
settled_all xs [] v e = inr (refl, refl)
settled_all xs (y ∷ ys) v e =
    let h = and_parts (is_settled xs (line_ownership y)) (list_all (λ x. is_settled xs (line_ownership x)) ys) e in
    elim (settled_one xs v (line_ownership y) h.0) [
      | inl here ↦ inl here
      | inr here ↦ elim (settled_all xs ys v h.1) [
        | inl later ↦ inl later
        | inr later ↦ inr (omega (arith, here.0, later.0), omega (arith, here.1, later.1))
      ]
    ]

all_settled : (t : Bool) (r : Reason) → cond t None (Some r) ≡ None → t ≡ true
all_settled true r e = refl
all_settled false r e = absurd cc

balanced : (xs : List BlockLine) → balance_fault (begins 0 ∷ xs) ≡ None → IsBalanced (begins 0 ∷ xs)
balanced xs e v =
    elim (settled_all (begins 0 ∷ xs) (begins 0 ∷ xs) v (all_settled _ _ e)) [
      | inl is ↦ is
      | inr none ↦ omega (arith, none.0, none.1)
    ]

-- ---- the law

pub owned_fits : (s : Script) → Owned s → FitsByBlock s
owned_fits s owned =
    let setup = slice_get s.blocks 0 in
    let a = none_first (setup_fault s setup) _ owned in
    let b = none_first (threads_fault s (map says (statements_in setup)) 1 (thread_blocks s)) (handlers_fault s (handler_blocks s)) a.1 in
    let threads = threads_none s (map says (statements_in setup)) 1 (thread_blocks s) b.0 in
    let handlers = λ (i : ℕ). handlers_none s (handler_blocks s) i b.1 in
    record {
      threads = λ t. thread t (lines_both s [] (map says (statements_in setup)) (packs_for 1 (thread_blocks s)) (setup_none setup a.0) threads.0) threads.1;
      handlers = λ h. (found_handler s (slice_get s.handlers h) handlers).lines;
      balanced = λ h. balanced _ (found_handler s (slice_get s.handlers h) handlers).balance;
    }
  where
    setup_none : (o : Option Block) → setup_fault s o ≡ None → BlockFits s [] (map says (statements_in o))
    setup_none None e = none_fit s []
    setup_none (Some b) e = statements_none s [] b.lines b.statements e

    thread : (t : ℕ) → BlockFits s [] (setup_lines s) → ((i : ℕ) → FitsThread s (slice_get (thread_blocks s) i))
        → BlockFits s [] (thread_lines s t)
    thread zero setup rest = setup
    thread (suc t) setup rest =
        chosen s (ltb (suc t) s.thread_count) (slice_get s.blocks (suc t)) (λ e.
        subst (FitsThread s) (thread_place s t (ltb-true (suc t) s.thread_count e)) (rest t))
