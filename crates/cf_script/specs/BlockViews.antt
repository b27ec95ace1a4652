-- What a block that is open, and the lines so far, stand for.
use Rattle.std.specs.Prelude.{ℕ, Bool, List, [], drop, Result, Ok}
use Rattle.std.specs.Option.{option_map}
use Rattle.cf_syntax.specs.declared.script.ClassLine.{ClassLine}
use Rattle.cf_syntax.specs.declared.refusal.Reason.{Reason}
use Rattle.cf_syntax.specs.declared.statement.Statement.{Statement}
use Rattle.cf_syntax.specs.FormTable.{FormWord}
use Rattle.cf_syntax.specs.FormStatements.{statement_by}
use Rattle.cf_syntax.specs.FormWords.{◌>>=◌, are_of, Names, With, numbers_of, no_numbers}
use Rattle.cf_syntax.specs.Text.{Opened, Reading, is_handler, with_statement, statement_of}
use Rattle.cf_script.specs.declared.block.OpenBlock.{OpenBlock}
use Rattle.cf_script.specs.declared.block.Reader.{Reader}

-- what a block that is open stands for
abbrev pub open_block_of : OpenBlock → Opened
open_block_of b = record {
  kind = b.kind;
  name = b.name.items;
  uses = b.uses.items;
  statements = b.statements.items;
  numbers = b.lines.items;
  first = b.first;
}

-- what the lines so far stand for
abbrev pub reading_of : Reader → Reading
reading_of r = record {
  count = r.count;
  classes = r.classes;
  blocks = r.blocks;
  open_block = option_map open_block_of r.block;
  threads = r.threads;
  names = r.names;
}

-- a block that is open with a statement more, whose line has a number, and the names after it
abbrev pub with_line : List ClassLine → (threads : List (List ℕ)) → Names → Opened → (line : ℕ) → List (List ℕ)
    → Result (With Opened) Reason
with_line classes threads names b line ws = do
  s ← statement_of classes threads (is_handler b.kind) names ws
  Ok (record { names = s.names; value = with_statement b s.value line })

-- the statement of a form that is found
abbrev pub statement_in : List ClassLine → (threads : List (List ℕ)) → (in_handler : Bool) → Names → FormWord
    → List (List ℕ) → Result (With Statement) Reason
statement_in classes threads in_handler names r ws = do
  _ ← are_of in_handler r.operands [] (drop 1 ws)
  ns ← numbers_of r.operands (drop 1 ws) (no_numbers names)
  s ← statement_by classes threads r.form ns.value ws
  Ok (record { names = ns.names; value = s })
