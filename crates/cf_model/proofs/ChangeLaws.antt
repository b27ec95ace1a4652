-- The changes of an object grow by what entries gain and cut: there are at most as many references as changes, and an
-- object was made exactly if its changes are above 0.
use Rattle.std.proofs.Common.{◌≡◌, ℕ, ◌+◌, ◌≤◌, List, [], ◌∷◌, ◌++◌, arith}
use Rattle.cf_syntax.specs.declared.script.Script.{Script}
use Rattle.cf_graph.specs.Edges.{degree}
use Rattle.cf_model.specs.declared.entry.Entry.{Entry}
use Rattle.cf_model.specs.State.{State, start}
use Rattle.cf_model.specs.Journals.{after_action, state_from, After}
use Rattle.cf_model.specs.Changes.{apart, changes_from, changes}

apart_most : (m n : ℕ) → n ≤ m + apart m n
apart_most m n = omega arith

most_from : (s : Script) (st : State) (o : ℕ) (es : List Entry)
    → degree o (state_from s st es).edges ≤ degree o st.edges + changes_from s st o es
most_from s st o [] = omega arith
most_from s st o (e ∷ es) =
    let next = after_action s e.thread st e.action in
    omega (arith, apart_most (degree o st.edges) (degree o next.edges), most_from s next o es)

pub references_most : (s : Script) (es : List Entry) (o : ℕ) → degree o (After s es).edges ≤ changes s o es
references_most s es o = omega (arith, most_from s (start s) o es)

changes_split : (s : Script) (st : State) (o : ℕ) (es more : List Entry)
    → changes_from s st o (es ++ more) ≡ changes_from s st o es + changes_from s (state_from s st es) o more
changes_split s st o [] more = omega arith
changes_split s st o (e ∷ es) more = omega (arith, changes_split s (after_action s e.thread st e.action) o es more)

pub changes_append : (s : Script) (o : ℕ) (es more : List Entry)
    → changes s o (es ++ more) ≡ changes s o es + changes_from s (After s es) o more
changes_append s o es more = changes_split s (start s) o es more
