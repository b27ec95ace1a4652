-- What the names so far stand for.
use Rattle.std.specs.Prelude.{◌≡◌, ℕ, ◌+◌, ◌≤◌, true, List, length, slice_index}
use Rattle.std.specs.Global.{Vec}
use Rattle.cf_ids.specs.declared.limits.TheConstants.{VARIABLES, HANDLERS, MODES, NOTICES}
use Rattle.cf_syntax.specs.FormWords.{Names, is_variable}
use Rattle.cf_syntax.specs.FormStatements.{word_at}
use Rattle.cf_script.specs.Views.{texts}

-- the names of four tables, and that they are few enough
abbrev pub tables : (variables handlers modes notices : List (Vec ℕ)) → Names
tables vs hs ms ns = record { variables = texts vs; handlers = texts hs; modes = texts ms; notices = texts ns }

abbrev pub AreFew : (variables handlers modes notices : List (Vec ℕ)) → Type 0
AreFew vs hs ms ns =
    (length vs ≤ VARIABLES) × (length hs ≤ HANDLERS) × (length ms ≤ MODES) × (length ns ≤ NOTICES)

-- each hint that is not 0 leads to a name of a table, the one before its number, which a form may use
abbrev pub AreTested : (hints : List ℕ) → List (List ℕ) → Type 0
AreTested hints names = (k i : ℕ) → slice_index hints k ≡ i + 1 → is_variable true (word_at names i) ≡ true
