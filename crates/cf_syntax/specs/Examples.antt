-- Scripts by which the definitions can be compared with what they are meant to say.
use Rattle.std.specs.Prelude.{ℕ, pos, List, [], ◌∷◌, codes, Some, None}
use Rattle.cf_syntax.specs.declared.script.Script.{Script}
use Rattle.cf_syntax.specs.declared.script.Block.{Block}
use Rattle.cf_syntax.specs.declared.script.Given.{Given}
use Rattle.cf_syntax.specs.declared.script.Handler.{Handler}
use Rattle.cf_syntax.specs.declared.refusal.Refusal.{Refusal}
use Rattle.cf_syntax.specs.declared.refusal.Reason.{Reason}
use Rattle.cf_syntax.specs.declared.statement.Statement.{Statement}
use Rattle.cf_syntax.specs.declared.statement.Statement.TheVariants.{MakeString, MakeSource, Retain, Release}

-- a refusal
abbrev pub refused_at : ℕ → Reason → Refusal
refused_at line reason = record { line = line; reason = reason }

-- a block of the variables x and so on
abbrev pub block_of : (name : List ℕ) → List Given → List Statement → (lines : List ℕ) → (first last : ℕ) → Block
block_of name uses statements lines first last = record {
  name = name;
  uses = uses;
  variables = codes "x" ∷ [];
  statements = statements;
  lines = lines;
  first = first;
  last = last;
}

-- a script of blocks, of which so many are those of threads, and of a handler whose block is the one with a number
abbrev pub script_of_blocks : List Block → (threads : ℕ) → List Handler → Script
script_of_blocks blocks threads handlers = record {
  classes = [];
  blocks = blocks;
  thread_count = threads;
  handlers = handlers;
  modes = codes "default" ∷ [];
  notices = [];
}

-- `x` as setup's first variable and the thread's first one
abbrev pub uses_x : Given
uses_x = record { setup = Some 0; own = 0 }

-- setup makes a string and a source of the handler h, a thread takes the string over, and h retains and releases
-- `info`
abbrev pub owned_script : Script
owned_script = script_of_blocks (
    block_of (codes "setup") [] (MakeString 0 (codes "hi") ∷ MakeSource 1 (pos 0) 0 None ∷ []) (3 ∷ 4 ∷ []) 2 5
    ∷ block_of (codes "a") (uses_x ∷ []) (Release 0 ∷ []) (7 ∷ []) 6 8
    ∷ block_of (codes "h") [] (Retain 0 ∷ Release 0 ∷ []) (10 ∷ 11 ∷ []) 9 12 ∷ [])
    2 (record { name = codes "h"; block = Some 2 } ∷ [])

-- a string that is released twice
abbrev pub released_twice : Script
released_twice = script_of_blocks (
    block_of (codes "setup") [] (MakeString 0 (codes "hi") ∷ Release 0 ∷ Release 0 ∷ []) (3 ∷ 4 ∷ 5 ∷ []) 2 6 ∷ [])
    1 []

-- a handler that retains `info`
abbrev pub kept_info : Script
kept_info = script_of_blocks (
    block_of (codes "setup") [] [] [] 2 3 ∷ block_of (codes "h") [] (Retain 0 ∷ []) (5 ∷ []) 4 6 ∷ [])
    1 (record { name = codes "h"; block = Some 1 } ∷ [])

-- two threads that use the one reference that setup has
abbrev pub taken_twice : Script
taken_twice = script_of_blocks (
    block_of (codes "setup") [] (MakeString 0 (codes "hi") ∷ []) (3 ∷ []) 2 4
    ∷ block_of (codes "a") (uses_x ∷ []) (Release 0 ∷ []) (6 ∷ []) 5 7
    ∷ block_of (codes "b") (uses_x ∷ []) [] [] 8 9 ∷ [])
    3 []

-- a variable that stands twice after `uses`
abbrev pub named_twice : Script
named_twice = script_of_blocks (
    block_of (codes "setup") [] (MakeString 0 (codes "hi") ∷ []) (3 ∷ []) 2 4
    ∷ block_of (codes "a") (uses_x ∷ uses_x ∷ []) [] [] 5 6 ∷ [])
    2 []
