-- The changes of an object: how far each entry moves the number of references to it, summed. This
-- project's own.
use Rattle.std.specs.Prelude.{◌≡◌, ℕ, ◌+◌, ◌-◌, ◌≤◌, List, [], ◌∷◌, ◌++◌}
use Rattle.cf_ids.specs.declared.limits.TheConstants.{MODES}
use Rattle.cf_syntax.specs.declared.script.Script.{Script}
use Rattle.cf_graph.specs.Edges.{Reference, degree}
use Rattle.cf_model.specs.declared.entry.Entry.{Entry}
use Rattle.cf_model.specs.State.{State, start}
use Rattle.cf_model.specs.Journals.{after_action, After}

-- the difference of two numbers, whichever is greater
abbrev pub apart : ℕ → ℕ → ℕ
apart m n = (m - n) + (n - m)

-- how far entries move the number of references to an object, summed, from a state on
abbrev pub changes_from : Script → State → ℕ → List Entry → ℕ
changes_from s st o [] = 0
changes_from s st o (e ∷ es) =
    let next = after_action s e.thread st e.action in
    apart (degree o st.edges) (degree o next.edges) + changes_from s next o es

-- the changes of an object in a journal: how far its entries move the number of references to it, summed
abbrev pub changes : Script → ℕ → List Entry → ℕ
changes s o es = changes_from s (start s) o es

-- the most references that one entry adds to one object: one from the common items, and one from each mode
abbrev pub most_gained : ℕ
most_gained = MODES + 1

-- references before and after: to no object are there fewer, or to none are there more
pub data OneWay (before after : List Reference) : Type 0 where
  rises : ((o : ℕ) → degree o before ≤ degree o after) → OneWay before after
  falls : ((o : ℕ) → degree o after ≤ degree o before) → OneWay before after

-- an entry after a journal raises numbers of references or lowers them, and never does both
abbrev pub IsOneWay : Script → List Entry → Entry → Type 0
IsOneWay s journal e =
    let st = After s journal in
    OneWay st.edges (after_action s e.thread st e.action).edges

-- no more references lead to an object than it has changes, and the changes of a longer journal are those of its
-- beginning and those after it
pub record ChangesCount (s : Script) (es : List Entry) (o : ℕ) : Type 0 where
  pub most : degree o (After s es).edges ≤ changes s o es
  pub more : (later : List Entry) → changes s o (es ++ later) ≡ changes s o es + changes_from s (After s es) o later
