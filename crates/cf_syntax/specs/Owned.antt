-- An owned script: each variable is bound once, used only if it is bound, and released no more often than it owns
-- references; a thread takes over from setup only what setup owns then; a handler leaves one reference to `info` and
-- none else; and each class, handler and thread that is named exists. After the ownership rule of the Memory
-- Management guide: who makes or retains an object owns a reference, and releases it. A count is a sum over the
-- earlier lines of the block.
use Rattle.std.specs.Prelude.{◌≡◌, ℕ, ◌+◌, Bool, true, List, [], ◌∷◌, ◌++◌, map, drop, Option, Some, None, slice_get, slice_index, ◌==◌, nat_lt, if◌then◌else◌}
use Rattle.std.specs.List.{list_all}
use Rattle.cf_syntax.specs.declared.statement.Statement.{Statement}
use Rattle.cf_syntax.specs.declared.mention.Mention.{Mention}
use Rattle.cf_syntax.specs.declared.mention.Mention.TheVariants as mentions
use Rattle.cf_syntax.specs.declared.mention.Ownership.{Ownership}
use Rattle.cf_syntax.specs.declared.mention.Ownership.TheVariants.{Keeps, Binds, Retains, Releases}
use Rattle.cf_syntax.specs.declared.script.Script.{Script}
use Rattle.cf_syntax.specs.declared.script.Block.{Block}
use Rattle.cf_syntax.specs.declared.script.Given.{Given}
use Rattle.cf_syntax.specs.declared.refusal.Refusal.{Refusal}
use Rattle.cf_syntax.specs.declared.refusal.Reason.{Reason}
use Rattle.cf_syntax.specs.declared.refusal.Reason.TheVariants.{Undefined, Redefined, Unowned, Unbalanced}
use Rattle.cf_syntax.specs.BlockLines.{BlockLine, begins, claims, says, packs, line_mentions, line_ownership, claims_from, packs_from, handler_block, statements_in, thread_blocks, handler_blocks, thread_lines, handler_lines}

-- ---- the counts of a variable

-- 1 for the variable itself
abbrev pub one_of : ℕ → ℕ → ℕ
one_of v w = if v == w then 1 else 0

-- how often a line binds a variable, how many references it gives to it, and how many it takes
abbrev pub bound_by : ℕ → Ownership → ℕ
bound_by v Keeps = 0
bound_by v (Binds w) = one_of v w
bound_by v (Retains w) = 0
bound_by v (Releases w) = 0

abbrev pub given_by : ℕ → Ownership → ℕ
given_by v Keeps = 0
given_by v (Binds w) = one_of v w
given_by v (Retains w) = one_of v w
given_by v (Releases w) = 0

abbrev pub released_by : ℕ → Ownership → ℕ
released_by v Keeps = 0
released_by v (Binds w) = 0
released_by v (Retains w) = 0
released_by v (Releases w) = one_of v w

-- the sum of a number of each line
abbrev pub total : (Ownership → ℕ) → List BlockLine → ℕ
total f [] = 0
total f (x ∷ xs) = f (line_ownership x) + total f xs

-- how often lines bind a variable, and how many references they give to it and take from it
abbrev pub bound : ℕ → List BlockLine → ℕ
bound v xs = total (bound_by v) xs

-- how many references statements give to a variable
abbrev pub given : ℕ → List BlockLine → ℕ
given v xs = total (given_by v) xs

-- how many references statements take from a variable
abbrev pub released : ℕ → List BlockLine → ℕ
released v xs = total (released_by v) xs

-- ---- the faults of a line

-- the first of two faults
abbrev pub or_else : {A : Type 0} → Option A → Option A → Option A
or_else None next = next
or_else (Some r) next = Some r

-- a variable that is used is bound before, and owns a reference; one that is to be bound is not bound before
abbrev pub unbound_fault : List BlockLine → ℕ → Option Reason
unbound_fault earlier v = if bound v earlier == 0 then Some Undefined else None

abbrev pub unowned_fault : List BlockLine → ℕ → Option Reason
unowned_fault earlier v = if nat_lt (released v earlier) (given v earlier) then None else Some Unowned

abbrev pub rebound_fault : List BlockLine → ℕ → Option Reason
rebound_fault earlier v = if bound v earlier == 0 then None else Some Redefined

-- what is named is there
abbrev pub missing_fault : {A : Type 0} → Option A → Option Reason
missing_fault None = Some Undefined
missing_fault (Some x) = None

-- a thread that is named is one of the script
abbrev pub thread_fault : Script → Option ℕ → Option Reason
thread_fault s None = Some Undefined
thread_fault s (Some t) = if nat_lt t s.thread_count then None else Some Undefined

-- the fault of a word after earlier lines of its block
abbrev pub mention_fault : Script → List BlockLine → Mention → Option Reason
mention_fault s earlier (mentions.Binds v) = rebound_fault earlier v
mention_fault s earlier (mentions.Uses v) = or_else (unbound_fault earlier v) (unowned_fault earlier v)
mention_fault s earlier (mentions.Class c) = missing_fault c
mention_fault s earlier (mentions.Handler h) = missing_fault (handler_block s h)
mention_fault s earlier (mentions.Thread t) = thread_fault s t
mention_fault s earlier mentions.Unknown = Some Undefined

-- the same of a place where such a word may stand
abbrev pub place_fault : Script → List BlockLine → Option Mention → Option Reason
place_fault s earlier None = None
place_fault s earlier (Some m) = mention_fault s earlier m

-- the fault of the leftmost word that has one
abbrev pub mentions_fault : Script → List BlockLine → List (Option Mention) → Option Reason
mentions_fault s earlier [] = None
mentions_fault s earlier (m ∷ ms) = or_else (place_fault s earlier m) (mentions_fault s earlier ms)

abbrev pub line_fault : Script → List BlockLine → BlockLine → Option Reason
line_fault s earlier x = mentions_fault s earlier (line_mentions x)

-- the fault of the first of some lines that has one
abbrev pub lines_fault : Script → List BlockLine → List BlockLine → Option Reason
lines_fault s earlier [] = None
lines_fault s earlier (x ∷ xs) = or_else (line_fault s earlier x) (lines_fault s (earlier ++ x ∷ []) xs)

-- ---- the first fault of a script, in the order of the file

-- a reason, with the number of its line
abbrev pub on_line : ℕ → Option Reason → Option Refusal
on_line line None = None
on_line line (Some r) = Some (record { line = line; reason = r })

-- the first fault of statements after earlier lines of their block; they stand on these lines of the file
abbrev pub statements_fault : Script → List BlockLine → List ℕ → List Statement → Option Refusal
statements_fault s earlier numbers [] = None
statements_fault s earlier numbers (x ∷ xs) =
    or_else (on_line (slice_index numbers 0) (line_fault s earlier (says x)))
    (statements_fault s (earlier ++ says x ∷ []) (drop 1 numbers) xs)

-- the fault of a word after `uses`: it is used in setup and bound in the thread's block
abbrev pub given_fault : (setup own : List BlockLine) → (used : Option ℕ) (bound : ℕ) → Option Reason
given_fault setup own None w = Some Undefined
given_fault setup own (Some v) w =
    or_else (unbound_fault setup v) (or_else (rebound_fault own w) (unowned_fault setup v))

-- the first fault of the words after `uses` on a thread's line, after earlier lines of setup and of the thread's block
abbrev pub uses_fault : (setup own : List BlockLine) → (thread place line : ℕ) → List Given → Option Refusal
uses_fault setup own thread place line [] = None
uses_fault setup own thread place line (u ∷ us) =
    or_else (on_line line (given_fault setup own u.setup u.own))
    (uses_fault (setup ++ packs thread place u.setup ∷ []) (own ++ claims place u.own ∷ []) thread (place + 1) line us)

-- the first fault of a thread's block, after lines of setup
abbrev pub thread_block_fault : Script → (setup : List BlockLine) → (thread : ℕ) → Block → Option Refusal
thread_block_fault s setup thread b =
    or_else (uses_fault setup [] thread 0 b.first b.uses)
    (statements_fault s (claims_from 0 b.uses) b.lines b.statements)

-- The first fault of threads, which are numbered from one on. A thread takes what it uses from setup as setup's end
-- and the earlier threads left it.
abbrev pub threads_fault : Script → (setup : List BlockLine) → (thread : ℕ) → List Block → Option Refusal
threads_fault s setup thread [] = None
threads_fault s setup thread (b ∷ bs) =
    or_else (thread_block_fault s setup thread b)
    (threads_fault s (setup ++ packs_from thread 0 b.uses) (thread + 1) bs)

-- a variable has as many references as a handler leaves to it: one to `info`, which is variable 0
abbrev pub is_left : List BlockLine → ℕ → Bool
is_left xs v = given v xs == released v xs + one_of v 0

-- the variable that a line changes has as many
abbrev pub is_settled : List BlockLine → Ownership → Bool
is_settled xs Keeps = true
is_settled xs (Binds v) = is_left xs v
is_settled xs (Retains v) = is_left xs v
is_settled xs (Releases v) = is_left xs v

-- the lines of a handler leave so many to each variable that one of them binds, retains or releases
abbrev pub balance_fault : List BlockLine → Option Reason
balance_fault xs = if list_all (λ x. is_settled xs (line_ownership x)) xs then None else Some Unbalanced

-- the first fault of a handler's block
abbrev pub handler_fault : Script → Block → Option Refusal
handler_fault s b =
    or_else (statements_fault s (begins 0 ∷ []) b.lines b.statements)
    (on_line b.last (balance_fault (begins 0 ∷ map says b.statements)))

-- the first fault of handlers
abbrev pub handlers_fault : Script → List Block → Option Refusal
handlers_fault s [] = None
handlers_fault s (b ∷ bs) = or_else (handler_fault s b) (handlers_fault s bs)

-- the first fault of setup's block
abbrev pub setup_fault : Script → Option Block → Option Refusal
setup_fault s None = None
setup_fault s (Some b) = statements_fault s [] b.lines b.statements

-- the first fault of a script
abbrev pub owner_fault : Script → Option Refusal
owner_fault s = let setup = slice_get s.blocks 0 in
    or_else (setup_fault s setup)
    (or_else (threads_fault s (map says (statements_in setup)) 1 (thread_blocks s))
    (handlers_fault s (handler_blocks s)))

-- no word of the script has a fault
abbrev pub Owned : Script → Type 0
Owned s = owner_fault s ≡ None

-- the least line that has a fault, and the reason of its leftmost word that has one
abbrev pub Unfit : Script → Refusal → Type 0
Unfit s r = owner_fault s ≡ Some r

-- ---- the same, block by block

-- a handler's block leaves one reference to `info` and none to any other variable
abbrev pub IsBalanced : List BlockLine → Type 0
IsBalanced xs = (v : ℕ) → given v xs ≡ released v xs + one_of v 0

-- the lines of each block have no fault, and each handler is balanced
pub record FitsByBlock (s : Script) : Type 0 where
  pub threads : (t : ℕ) → lines_fault s [] (thread_lines s t) ≡ None
  pub handlers : (h : ℕ) → lines_fault s [] (handler_lines s h) ≡ None
  pub balanced : (h : ℕ) → IsBalanced (handler_lines s h)
