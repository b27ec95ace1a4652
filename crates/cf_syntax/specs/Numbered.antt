-- The numbers of a script fit those of actions. This project's own. A script that is read from a text has them.
use Rattle.std.specs.Prelude.{◌≤◌, ◌<◌, ℕ, Option, Some, None, length, IfSome}
use Rattle.std.specs.List.{All}
use Rattle.cf_ids.specs.declared.limits.TheConstants.{SCRIPT_BYTES, THREADS, MODES}
use Rattle.cf_syntax.specs.declared.mention.ThreadWord.{ThreadWord}
use Rattle.cf_syntax.specs.declared.mention.ThreadWord.TheVariants.{Own, Named}
use Rattle.cf_syntax.specs.declared.mention.ModeWord.{ModeWord}
use Rattle.cf_syntax.specs.declared.mention.ModeWord.TheVariants as modes
use Rattle.cf_syntax.specs.declared.statement.Statement.{Statement}
use Rattle.cf_syntax.specs.declared.statement.Statement.TheVariants.{Add, Drop, Common, Wake, Stop, Run}
use Rattle.cf_syntax.specs.declared.script.Block.{Block}
use Rattle.cf_syntax.specs.declared.script.Handler.{Handler}
use Rattle.cf_syntax.specs.declared.script.Parts.{Parts}

-- a handler's block has a number below 2^16
abbrev pub IsPlaced : Handler → Type 0
IsPlaced h = IfSome h.block (λ b. b < 65536)

-- a block takes no more from setup, and has no more statements, than a text can have bytes
pub record FitsText (b : Block) : Type 0 where
  pub uses : length b.uses ≤ SCRIPT_BYTES
  pub statements : length b.statements ≤ SCRIPT_BYTES

-- the thread that a word names by its name, where the script has one of that name
abbrev pub thread_word : ThreadWord → Option ℕ
thread_word Own = None
thread_word (Named t) = t

-- the mode that a word names
abbrev pub mode_word : ModeWord → Option ℕ
mode_word modes.Common = None
mode_word (modes.Mode m) = Some m

-- the thread that a statement names by its name
abbrev pub thread_in : Statement → Option ℕ
thread_in (Add item thread mode) = thread_word thread
thread_in (Drop item thread mode) = thread_word thread
thread_in (Common thread mode) = thread_word thread
thread_in (Wake thread) = thread_word thread
thread_in (Stop thread) = thread_word thread
thread_in _ = None

-- the mode that a statement names
abbrev pub mode_in : Statement → Option ℕ
mode_in (Add item thread mode) = mode_word mode
mode_in (Drop item thread mode) = mode_word mode
mode_in (Common thread mode) = Some mode
mode_in (Run mode limit once) = Some mode
mode_in _ = None

-- a statement names no other thread, and no other mode, than those with numbers below this
abbrev pub NamesThread : (threads : ℕ) → Statement → Type 0
NamesThread threads x = IfSome (thread_in x) (λ t. t < threads)

abbrev pub NamesMode : (modes : ℕ) → Statement → Type 0
NamesMode modes x = IfSome (mode_in x) (λ m. m < modes)

-- a statement names a thread and a mode of the script, where it names one
pub record NamesOwn (s : Parts) (x : Statement) : Type 0 where
  pub thread : NamesThread s.thread_count x
  pub mode : NamesMode (length s.modes) x

-- so each statement of a block
abbrev pub ThreadsNamed : (threads : ℕ) → Block → Type 0
ThreadsNamed threads b = All (NamesThread threads) b.statements

abbrev pub ModesNamed : (modes : ℕ) → Block → Type 0
ModesNamed modes b = All (NamesMode modes) b.statements

-- a script has a mode, which is `default`, and at most 1,024, and a statement names one of them
pub record HasModes (s : Parts) : Type 0 where
  pub some : 0 < length s.modes
  pub few : length s.modes ≤ MODES
  pub named : All (ModesNamed (length s.modes)) s.blocks

-- at most 64 threads, handlers' blocks that have numbers below 2^16, blocks as a text can have them, and statements
-- that name the script's own modes and threads
pub record IsNumbered (s : Parts) : Type 0 where
  pub threads : s.thread_count ≤ THREADS
  pub handlers : All IsPlaced s.handlers
  pub blocks : All FitsText s.blocks
  pub modes : HasModes s
  pub named : All (ThreadsNamed s.thread_count) s.blocks
