-- What comes next of a thread as far as it is retains, and that entries of others leave it: what a table of shared
-- counts needs to know. This project's own.
use Rattle.std.specs.Prelude.{◌≡◌, ℕ, ◌<◌, List, [], ◌∷◌, ◌++◌, Option, Some, if◌then◌else◌}
use Rattle.cf_syntax.specs.declared.script.Script.{Script}
use Rattle.cf_syntax.specs.declared.statement.Statement.TheVariants.{Retain}
use Rattle.cf_syntax.specs.Mentions.{first_of}
use Rattle.cf_syntax.specs.BlockLines.{says}
use Rattle.cf_graph.specs.Edges.{weigh, from_thread}
use Rattle.cf_next.specs.Demands.{does}
use Rattle.cf_next.specs.declared.action.Action.TheVariants as actions
use Rattle.cf_next.specs.Ahead.{ahead, Begins}
use Rattle.cf_model.specs.declared.entry.Entry.{Entry}
use Rattle.cf_model.specs.State.{State, times, stand_at}
use Rattle.cf_model.specs.Known.{facts_of}
use Rattle.cf_model.specs.Steps.{demanded, done_by}
use Rattle.cf_model.specs.Journals.{After, can_go, Next}

-- the objects of a thread's next actions, as far as they are retains; none if it is not started, asleep or done
abbrev pub next_retains : Script → State → ℕ → List ℕ
next_retains s st t = if can_go st t then ahead s (facts_of st) t (stand_at t st.stands) else []

-- none of the entries is of the thread
abbrev pub NoneBy : ℕ → List Entry → Type 0
NoneBy t [] = Unit {0}
NoneBy t (e ∷ es) = (t ≡ e.thread → ⊥) × NoneBy t es

-- entries of other threads, ticks and stalls take none of a thread's next retains away
abbrev pub ComingStays : Script → List Entry → List Entry → ℕ → Type 0
ComingStays s journal more t =
    NoneBy t more → Begins (next_retains s (After s journal) t) (next_retains s (After s (journal ++ more)) t)

-- a retain comes first: it is the thread's next action, and after it the rest comes
pub record ComesFirst (s : Script) (st : State) (t o : ℕ) (os : List ℕ) : Type 0 where
  pub var : ℕ
  pub demands : demanded s st t ≡ Some (does (says (Retain var)))
  pub block : ℕ
  pub number : ℕ
  pub used : List (Option ℕ)
  pub next : Next s st t ≡ Some (actions.Retain block number used)
  pub object : first_of used ≡ Some o
  pub rest : next_retains s (done_by s t st (does (says (Retain var)))) t ≡ os

-- if a retain comes first after a journal, it is the thread's next action, and after it the rest comes
abbrev pub FirstIsNext : Script → List Entry → ℕ → Type 0
FirstIsNext s journal t =
    (o : ℕ) (os : List ℕ) → next_retains s (After s journal) t ≡ o ∷ os → ComesFirst s (After s journal) t o os

-- no reference of a thread is changed by entries of others
abbrev pub OwnStays : Script → List Entry → List Entry → ℕ → Type 0
OwnStays s journal more t =
    (o : ℕ) → NoneBy t more
    → weigh (from_thread t o) (After s (journal ++ more)).edges ≡ weigh (from_thread t o) (After s journal).edges

-- a thread has a reference to each object that it retains next
abbrev pub ComingIsHad : Script → List Entry → ℕ → Type 0
ComingIsHad s journal t =
    (o : ℕ) → 0 < times o (next_retains s (After s journal) t) → 0 < weigh (from_thread t o) (After s journal).edges
