-- That each call of a source fits. After the Run Loops guide: a source is called by a run of a mode that holds it,
-- while it is valid and signalled.
use Rattle.std.specs.Prelude.{◌≡◌, ℕ, List, ◌∷◌, ◌++◌, Option, Some, IsTrue}
use Rattle.cf_syntax.specs.declared.script.Script.{Script}
use Rattle.cf_graph.specs.Holders.{in_mode}
use Rattle.cf_graph.specs.Edges.{has}
use Rattle.cf_next.specs.declared.action.Action.TheVariants as actions
use Rattle.cf_next.specs.Stands.{Turn}
use Rattle.cf_model.specs.declared.entry.Entry.{Entry}
use Rattle.cf_model.specs.Journals.{After}
use Rattle.cf_history.specs.History.{is_signalled_after, is_valid_after, is_source_after}
use Rattle.cf_history.specs.OpenRuns.{open_runs}

-- after entries the innermost run of a thread is of a mode of its loop that holds a source, which is valid and
-- signalled
pub record CalloutFits (s : Script) (es : List Entry) (t i : ℕ) : Type 0 where
  pub run : Turn
  pub outer : List Turn
  pub runs : open_runs s es t ≡ run ∷ outer
  pub held : IsTrue (has (in_mode t run.mode) i (After s es).edges)
  pub valid : IsTrue (is_valid_after es i)
  pub signalled : IsTrue (is_signalled_after es i)

-- so it is at each call of a source
abbrev pub CalloutsFit : Script → List Entry → Type 0
CalloutsFit s es =
    (earlier later : List Entry) (e : Entry) (h i : ℕ) (info : Option ℕ) → es ≡ earlier ++ e ∷ later
    → e.action ≡ actions.Call h (Some i) info → IsTrue (is_source_after earlier i) → CalloutFits s earlier e.thread i
