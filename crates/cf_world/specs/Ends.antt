-- What a world gives back at its end.
use Rattle.std.specs.Prelude.{List}
use Rattle.std.specs.Global.{Vec}
use Rattle.cf_syntax.specs.declared.script.Script.{Script}
use Rattle.cf_model.specs.declared.entry.Entry.{Entry}

-- what a world gives back at its end: its script and its journal
pub record Given : Type 0 where
  pub script : Script
  pub journal : List Entry

-- a script and a journal, as the two that are given back
abbrev pub given_back : Script × Vec Entry → Given
given_back e = record { script = e.0; journal = e.1.items }
