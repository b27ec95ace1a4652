-- The lines of a block as a thread meets them: what it takes over at its start, its statements, and what setup packs
-- at its end for the threads. This project's own. Each list is a total function of the script.
use Rattle.std.specs.Prelude.{ℕ, zero, suc, ◌+◌, List, [], ◌∷◌, ◌++◌, map, drop, take, Option, Some, None, slice_get, option_and_then, nat_lt, if◌then◌else◌}
use Rattle.cf_syntax.specs.declared.statement.Statement.{Statement}
use Rattle.cf_syntax.specs.declared.mention.Mention.{Mention}
use Rattle.cf_syntax.specs.declared.mention.Mention.TheVariants as mentions
use Rattle.cf_syntax.specs.declared.mention.Ownership.{Ownership}
use Rattle.cf_syntax.specs.declared.mention.Ownership.TheVariants.{Keeps, Binds, Releases}
use Rattle.cf_syntax.specs.declared.script.Script.{Script}
use Rattle.cf_syntax.specs.declared.script.Block.{Block}
use Rattle.cf_syntax.specs.declared.script.Given.{Given}
use Rattle.cf_syntax.specs.declared.script.Handler.{Handler}
use Rattle.cf_syntax.specs.Mentions.{named, mentions_of, ownership_of, used, present}

-- A variable that has an object as the block begins, which is `info` of a handler; one that the thread claims from a
-- place of its parcel; a statement; and a variable of setup that is packed for a place of a thread's parcel, or none
-- if setup has no variable of that name.
pub data BlockLine : Type 0 where
  begins : ℕ → BlockLine
  claims : (place v : ℕ) → BlockLine
  says : Statement → BlockLine
  packs : (thread place : ℕ) (v : Option ℕ) → BlockLine

-- the word after `uses` as setup's block sees it
abbrev pub packed_mention : Option ℕ → Mention
packed_mention None = mentions.Unknown
packed_mention (Some v) = mentions.Uses v

abbrev pub packed_ownership : Option ℕ → Ownership
packed_ownership None = Keeps
packed_ownership (Some v) = Releases v

-- the words of a line that name something
abbrev pub line_mentions : BlockLine → List (Option Mention)
line_mentions (begins v) = named (Some (mentions.Binds v)) None None
line_mentions (claims place v) = named (Some (mentions.Binds v)) None None
line_mentions (says s) = mentions_of s
line_mentions (packs thread place v) = named (Some (packed_mention v)) None None

-- what a line does to the count of a variable of its block
abbrev pub line_ownership : BlockLine → Ownership
line_ownership (begins v) = Binds v
line_ownership (claims place v) = Binds v
line_ownership (says s) = ownership_of s
line_ownership (packs thread place v) = packed_ownership v

-- the variables that a line uses, in the order of its words
abbrev pub line_uses : BlockLine → List ℕ
line_uses x = present (map used (line_mentions x))

-- what a thread claims, and what setup packs for it, one for each word after its `uses`
abbrev pub claims_from : (place : ℕ) → List Given → List BlockLine
claims_from place [] = []
claims_from place (u ∷ us) = claims place u.own ∷ claims_from (place + 1) us

abbrev pub packs_from : (thread place : ℕ) → List Given → List BlockLine
packs_from thread place [] = []
packs_from thread place (u ∷ us) = packs thread place u.setup ∷ packs_from thread (place + 1) us

-- what setup packs for the threads of these blocks, which are numbered from one on
abbrev pub packs_for : (thread : ℕ) → List Block → List BlockLine
packs_for thread [] = []
packs_for thread (b ∷ bs) = packs_from thread 0 b.uses ++ packs_for (thread + 1) bs

-- the statements of a block, and what it uses; nothing where there is no block
abbrev pub statements_in : Option Block → List Statement
statements_in None = []
statements_in (Some b) = b.statements

abbrev pub uses_in : Option Block → List Given
uses_in None = []
uses_in (Some b) = b.uses

-- the blocks of threads after setup, and those of handlers
abbrev pub thread_blocks : Script → List Block
thread_blocks s = drop 1 (take s.thread_count s.blocks)

abbrev pub handler_blocks : Script → List Block
handler_blocks s = drop s.thread_count s.blocks

-- a block that stands after those of threads
abbrev pub after_threads : Script → ℕ → Option ℕ
after_threads s b = if nat_lt b s.thread_count then None else Some b

-- the number of a handler's block
abbrev pub handler_block : Script → ℕ → Option ℕ
handler_block s h =
    option_and_then (λ (x : Handler). option_and_then (after_threads s) x.block) (slice_get s.handlers h)

-- the block of a thread after setup, and that of a handler
abbrev pub thread_block : Script → ℕ → Option Block
thread_block s thread = if nat_lt thread s.thread_count then slice_get s.blocks thread else None

abbrev pub block_of_handler : Script → ℕ → Option Block
block_of_handler s h = option_and_then (λ b. slice_get s.blocks b) (handler_block s h)

-- the lines of setup, of another thread's block, and of a handler's
abbrev pub setup_lines : Script → List BlockLine
setup_lines s = map says (statements_in (slice_get s.blocks 0)) ++ packs_for 1 (thread_blocks s)

abbrev pub thread_lines : Script → ℕ → List BlockLine
thread_lines s zero = setup_lines s
thread_lines s (suc t) =
    claims_from 0 (uses_in (thread_block s (suc t))) ++ map says (statements_in (thread_block s (suc t)))

abbrev pub handler_lines : Script → ℕ → List BlockLine
handler_lines s h = begins 0 ∷ map says (statements_in (block_of_handler s h))
