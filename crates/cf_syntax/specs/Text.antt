-- The script that a text is, or its refusal. This project's own: line 1 is `cf 1`, class lines follow, then the block
-- `setup`, the blocks of threads and those of handlers, each to a line `end`, with a statement on each line between.
-- Each step below tries the reasons of a line in their order.
use Rattle.std.specs.Prelude.{◌≡◌, ℕ, ◌+◌, ◌-◌, Bool, true, false, not, ◌&&◌, List, [], ◌∷◌, ◌++◌, length, map, take, drop, replicate, codes, Result, Ok, Err, Option, Some, None, is_some, nat_lt, nat_le, ◌==◌, if◌then◌else◌}
use Rattle.std.specs.Option.{option_map}
use Rattle.std.specs.List.{list_any, position_or_len}
use Rattle.std.specs.Str.{bytes_eq, is_utf8}
use Rattle.cf_syntax.specs.declared.script.Script.{Script}
use Rattle.cf_syntax.specs.declared.script.ClassLine.{ClassLine}
use Rattle.cf_syntax.specs.declared.script.Block.{Block}
use Rattle.cf_syntax.specs.declared.script.Given.{Given}
use Rattle.cf_syntax.specs.declared.script.Handler.{Handler}
use Rattle.cf_syntax.specs.declared.statement.Statement.{Statement}
use Rattle.cf_syntax.specs.declared.form.BlockKind.{BlockKind}
use Rattle.cf_syntax.specs.declared.form.BlockKind.TheVariants as kinds
use Rattle.cf_syntax.specs.declared.form.NameTable.TheVariants as tables
use Rattle.cf_syntax.specs.declared.form.Operand.{Operand}
use Rattle.cf_syntax.specs.declared.form.Operand.TheVariants as operands
use Rattle.cf_syntax.specs.declared.refusal.Refusal.{Refusal}
use Rattle.cf_syntax.specs.declared.refusal.Reason.{Reason}
use Rattle.cf_syntax.specs.declared.refusal.Reason.TheVariants.{NotUtf8, Header, Word, Order, Arity, Twice, TooMany, Open, NoSetup}
use Rattle.cf_syntax.specs.declared.refusal.Reason.TheVariants as reasons
use Rattle.cf_syntax.specs.Lines.{lines}
use Rattle.cf_syntax.specs.Words.{says_nothing, words}
use Rattle.cf_syntax.specs.FormStatements.{Numbers, word_at, field_count_at, statement_by}
use Rattle.cf_syntax.specs.FormWords.{◌>>=◌, require, needed, form_of, are_of, Names, With, numbered, numbers_of, no_numbers}

-- a block that is not ended: its name, what it uses, its statements, their lines, and its first line
pub record Opened : Type 0 where
  pub kind : BlockKind
  pub name : List ℕ
  pub uses : List Given
  pub statements : List Statement
  pub numbers : List ℕ
  pub first : ℕ

-- What the lines so far made: how many they are, the classes, the blocks that are ended, the one that is not, how many
-- blocks of threads began, with setup, and the names, of which those of variables are of the open block; outside a
-- block there are none.
pub record Reading : Type 0 where
  pub count : ℕ
  pub classes : List ClassLine
  pub blocks : List Block
  pub open_block : Option Opened
  pub threads : ℕ
  pub names : Names

-- before line 1: `default` is mode 0
abbrev pub start : Reading
start = record {
  count = 0;
  classes = [];
  blocks = [];
  open_block = None;
  threads = 0;
  names = record { variables = []; handlers = []; modes = codes "default" ∷ []; notices = [] };
}

-- ---- line 1

abbrev pub is_word : List (List ℕ) → ℕ → List ℕ → Bool
is_word ws i word = bytes_eq (word_at ws i) word

abbrev pub is_header : List (List ℕ) → Bool
is_header ws = length ws == 2 && (is_word ws 0 (codes "cf") && is_word ws 1 (codes "1"))

-- ---- lines outside a block

-- the words after the first of a class line, of a handler's line, and of a thread's, which has at least one variable
-- after `uses`
abbrev pub class_operands : List Operand
class_operands = operands.Class ∷ operands.Fields ∷ operands.FieldCount ∷ operands.Equal ∷ operands.Equality ∷ []

abbrev pub handler_operands : List Operand
handler_operands = operands.Handler ∷ []

abbrev pub thread_operands : (count : ℕ) → List Operand
thread_operands count = if nat_le 4 count then operands.Class ∷ operands.Uses ∷ replicate (count - 3) operands.Bound
    else operands.Class ∷ []

-- as many words as the line has to have, and each of its form
abbrev pub has_words : List Operand → List (List ℕ) → Result (Unit {0}) Reason
has_words os ws = do
  _ ← require Arity (length ws == 1 + length os)
  are_of false os [] (drop 1 ws)

-- whether classes, or blocks, have a name
abbrev pub class_has_name : List ClassLine → List ℕ → Bool
class_has_name classes name = list_any (λ (c : ClassLine). bytes_eq name c.name) classes

abbrev pub block_has_name : List Block → List ℕ → Bool
block_has_name blocks name = list_any (λ (b : Block). bytes_eq name b.name) blocks

abbrev pub class_by : List (List ℕ) → ClassLine
class_by ws = record { name = word_at ws 1; fields = field_count_at ws 3; keyed = is_word ws 5 (codes "key") }

-- a class line: before setup, with a name that no other class has; there are at most 1,011
unfoldable pub class_line : Reading → List (List ℕ) → Result Reading Reason
class_line r ws = do
  _ ← require Order (r.threads == 0)
  _ ← has_words class_operands ws
  _ ← require Twice (not (class_has_name r.classes (word_at ws 1)))
  _ ← require TooMany (nat_lt (length r.classes) 1011)
  Ok (record r { classes = r.classes ++ class_by ws ∷ [] })

-- a reading with a block more that is open, whose line has this number, with the names that stand for its variables
abbrev pub new_block : Reading → BlockKind → List ℕ → List Given → Reading
new_block r kind name uses = record r {
  open_block = Some (record {
    kind = kind;
    name = name;
    uses = uses;
    statements = [];
    numbers = [];
    first = r.count + 1;
  });
}

-- the line `setup`, of which there is one
unfoldable pub setup_line : Reading → List (List ℕ) → Result Reading Reason
setup_line r ws = do
  _ ← has_words [] ws
  _ ← require Twice (r.threads == 0)
  Ok (record (new_block r kinds.Setup (codes "setup") []) { threads = 1 })

-- one word after `uses`: its place among the variables of setup, where setup has it, and among those of the thread
abbrev pub place_of : List (List ℕ) → List ℕ → Option ℕ
place_of names word = let n = position_or_len (bytes_eq word) names in if nat_lt n (length names) then Some n else None

abbrev pub setup_variables : List Block → List (List ℕ)
setup_variables [] = []
setup_variables (b ∷ bs) = b.variables

abbrev pub givens_of : List (List ℕ) → List (List ℕ) → (numbers : List ℕ) → List Given
givens_of setup [] ns = []
givens_of setup (w ∷ ws) [] = []
givens_of setup (w ∷ ws) (n ∷ ns) = record { setup = place_of setup w; own = n } ∷ givens_of setup ws ns

-- the words after `uses` as variables of the thread's block
abbrev pub used_words : List (List ℕ) → List (List ℕ)
used_words ws = drop 3 ws

abbrev pub numbered_uses : Names → List (List ℕ) → Result (With Numbers) Reason
numbered_uses names ws = numbers_of (replicate (length ws) operands.Bound) ws (no_numbers names)

-- what a thread uses, by the numbers of these words
abbrev pub uses_of : Reading → List (List ℕ) → (numbers : List ℕ) → List Given
uses_of r ws ns = givens_of (setup_variables r.blocks) (used_words ws) ns

-- a line that begins a thread: after setup and before the handlers, with a name that no other thread has; there are at
-- most 64 threads, with setup
unfoldable pub thread_line : Reading → List (List ℕ) → Result Reading Reason
thread_line r ws = do
  _ ← require Order (nat_lt 0 r.threads && length r.blocks == r.threads)
  _ ← has_words (thread_operands (length ws)) ws
  _ ← require Twice (not (block_has_name (drop 1 r.blocks) (word_at ws 1)))
  _ ← require TooMany (nat_lt r.threads 64)
  vs ← numbered_uses r.names (used_words ws)
  Ok (record (new_block r kinds.Thread (word_at ws 1) (uses_of r ws vs.value.variables)) {
    threads = r.threads + 1;
    names = vs.names;
  })

-- a line that begins a handler: after setup, with a name that no other handler's block has. Its block is a use of its
-- name, and its first variable is `info`
unfoldable pub handler_line : Reading → List (List ℕ) → Result Reading Reason
handler_line r ws = do
  _ ← require Order (nat_lt 0 r.threads)
  _ ← has_words handler_operands ws
  _ ← require Twice (not (block_has_name (drop r.threads r.blocks) (word_at ws 1)))
  h ← numbered tables.Handlers (word_at ws 1) r.names
  Ok (record (new_block r kinds.Handler (word_at ws 1) []) {
    names = record h.names { variables = codes "info" ∷ [] };
  })

-- a line outside a block
abbrev pub outside : Reading → List (List ℕ) → Result Reading Reason
outside r ws =
    if is_word ws 0 (codes "class") then class_line r ws
    else (if is_word ws 0 (codes "setup") then setup_line r ws
    else (if is_word ws 0 (codes "thread") then thread_line r ws
    else (if is_word ws 0 (codes "handler") then handler_line r ws
    else Err Word)))

-- ---- lines inside a block

abbrev pub is_handler : BlockKind → Bool
is_handler kinds.Setup = false
is_handler kinds.Thread = false
is_handler kinds.Handler = true

-- the block that a line ends
abbrev pub close_block : Opened → List (List ℕ) → ℕ → Block
close_block b variables line = record {
  name = b.name;
  uses = b.uses;
  variables = variables;
  statements = b.statements;
  lines = b.numbers;
  first = b.first;
  last = line;
}

-- the line `end`
unfoldable pub end_line : Reading → Opened → List (List ℕ) → Result Reading Reason
end_line r b ws = do
  _ ← require Arity (length ws == 1)
  Ok (record r {
    blocks = r.blocks ++ close_block b r.names.variables (r.count + 1) ∷ [];
    open_block = None;
    names = record r.names { variables = [] };
  })

-- the statement that the words of a line are, with the names after it
unfoldable pub statement_of : List ClassLine → (threads : List (List ℕ)) → (in_handler : Bool) → Names → List (List ℕ)
    → Result (With Statement) Reason
statement_of classes threads in_handler names ws = do
  form_word ← form_of ws
  _ ← are_of in_handler form_word.operands [] (drop 1 ws)
  ns ← numbers_of form_word.operands (drop 1 ws) (no_numbers names)
  s ← statement_by classes threads form_word.form ns.value ws
  Ok (record { names = ns.names; value = s })

abbrev pub with_statement : Opened → Statement → ℕ → Opened
with_statement b s line = record b { statements = b.statements ++ s ∷ []; numbers = b.numbers ++ line ∷ [] }

unfoldable pub statement_line : (threads : List (List ℕ)) → Reading → Opened → List (List ℕ) → Result Reading Reason
statement_line threads r b ws = do
  s ← statement_of r.classes threads (is_handler b.kind) r.names ws
  Ok (record r { open_block = Some (with_statement b s.value (r.count + 1)); names = s.names })

-- a line inside a block
abbrev pub inside : (threads : List (List ℕ)) → Reading → Opened → List (List ℕ) → Result Reading Reason
inside threads r b ws = if is_word ws 0 (codes "end") then end_line r b ws else statement_line threads r b ws

-- ---- the lines of a text

-- a line that says something, after line 1, by its words
abbrev pub place_line : (threads : List (List ℕ)) → Reading → Option Opened → List (List ℕ) → Result Reading Reason
place_line threads r None ws = outside r ws
place_line threads r (Some b) ws = inside threads r b ws

-- line 1, by its words
unfoldable pub header_line : Reading → List (List ℕ) → Result Reading Reason
header_line r ws = do
  _ ← require Header (is_header ws)
  Ok r

-- a line that says something
unfoldable pub spoken_line : (threads : List (List ℕ)) → Reading → List ℕ → Result Reading Reason
spoken_line threads r line = do
  ws ← needed reasons.Text (words line)
  if r.count == 0 then header_line r ws else place_line threads r r.open_block ws

-- A line more. Its bytes are UTF-8, and after line 1 a line may say nothing.
unfoldable pub after_line : (threads : List (List ℕ)) → Reading → List ℕ → Result Reading Reason
after_line threads r line = do
  _ ← require NotUtf8 (is_utf8 line)
  s ← (if nat_lt 0 r.count && says_nothing line then Ok r else spoken_line threads r line)
  Ok (record s { count = r.count + 1 })

-- a handler and the place of its block among all blocks, where there is one
abbrev pub handler_named : (threads : ℕ) → List Block → List ℕ → Handler
handler_named threads blocks name = record {
  name = name;
  block = option_map (λ i. threads + i) (place_of (map (λ (b : Block). b.name) (drop threads blocks)) name);
}

-- the end of the text: line 1 was there, no block is open, and there was a setup
unfoldable pub ended : Reading → Result (Unit {0}) Reason
ended r = do
  _ ← require Header (nat_lt 0 r.count)
  _ ← require Open (not (is_some r.open_block))
  require NoSetup (nat_lt 0 r.threads)

abbrev pub script_at : Reading → Script
script_at r = record {
  classes = r.classes;
  blocks = r.blocks;
  thread_count = r.threads;
  handlers = map (handler_named r.threads r.blocks) r.names.handlers;
  modes = r.names.modes;
  notices = r.names.notices;
}

-- the script at the end of the text
unfoldable pub whole : Reading → Result Script Reason
whole r = do
  _ ← ended r
  Ok (script_at r)

-- the number of the line goes with its reason
abbrev pub on_line_after : {A : Type 0} → (count : ℕ) → Result A Reason → Result A Refusal
on_line_after count (Ok x) = Ok x
on_line_after count (Err reason) = Err (record { line = count + 1; reason = reason })

-- lines more
abbrev pub read_from : (threads : List (List ℕ)) → Reading → List (List ℕ) → Result Reading Refusal
read_from threads r [] = Ok r
read_from threads r (l ∷ ls) = do
  s ← on_line_after r.count (after_line threads r l)
  read_from threads s ls

-- the names of a text's threads in order: the second words of the lines whose first word is `thread`. Inside a block
-- there is no such line
abbrev pub thread_name : Option (List (List ℕ)) → List (List ℕ)
thread_name None = []
thread_name (Some ws) = if is_word ws 0 (codes "thread") then word_at ws 1 ∷ [] else []

abbrev pub thread_names : List (List ℕ) → List (List ℕ)
thread_names [] = []
thread_names (l ∷ ls) = thread_name (words l) ++ thread_names ls

-- the names of the threads that statements may name: the first 63, which are all of a script's
abbrev pub named_threads : List (List ℕ) → List (List ℕ)
named_threads ls = take 63 (thread_names ls)

-- the script that lines are, or their refusal
unfoldable pub script_by : (threads : List (List ℕ)) → List (List ℕ) → Result Script Refusal
script_by threads ls = do
  r ← read_from threads start ls
  on_line_after r.count (whole r)

-- the script that bytes are the text of, or their refusal
abbrev pub script_of : List ℕ → Result Script Refusal
script_of bs = script_by (named_threads (lines bs)) (lines bs)

-- bytes are the text of a script
abbrev pub Text : List ℕ → Script → Type 0
Text bs s = script_of bs ≡ Ok s
