-- The runs of loops that a journal shows as begun and not ended, and the order of their phases. After the Run Loops
-- guide; the order of the phases is that of CFRunLoop.c in outline.
use Rattle.std.specs.Prelude.{◌≡◌, ℕ, pos, Bool, true, false, ◌&&◌, List, [], ◌∷◌, ◌++◌, drop, Option, Some, None, is_some, ◌==◌, if◌then◌else◌}
use Rattle.cf_ids.specs.declared.answer.Answer.{Answer}
use Rattle.cf_ids.specs.declared.answer.Answer.TheVariants as answers
use Rattle.rl_base.specs.Dates.{has_come}
use Rattle.rl_turn.specs.declared.phases.Phase.{Phase}
use Rattle.rl_turn.specs.declared.phases.Phase.TheVariants as phases
use Rattle.rl_turn.specs.declared.phases.TurnFacts.{TurnFacts}
use Rattle.rl_turn.specs.Turn.{next_of, result_of}
use Rattle.cf_syntax.specs.declared.script.Script.{Script}
use Rattle.cf_syntax.specs.declared.statement.Statement.{Statement}
use Rattle.cf_syntax.specs.declared.statement.Statement.TheVariants as forms
use Rattle.cf_next.specs.declared.action.Action.{Action}
use Rattle.cf_next.specs.declared.action.Action.TheVariants as actions
use Rattle.cf_next.specs.Stands.{Turn}
use Rattle.cf_next.specs.Advance.{is_entered, deadline_of}
use Rattle.cf_model.specs.declared.entry.Entry.{Entry}
use Rattle.cf_model.specs.Things.{is_empty_mode}
use Rattle.cf_model.specs.Deals.{thread_in}
use Rattle.cf_model.specs.Journals.{After}
use Rattle.cf_history.specs.Written.{statement_of}
use Rattle.cf_history.specs.History.{names, is_ok, is_source_after}
use Rattle.cf_history.specs.Timing.{time_after}

-- ---- runs that have begun and not ended, the innermost first

-- a run begins at a time with an accepted `run`, and has its deadline from then on
abbrev pub begun : ℕ → Option Statement → Answer → List Turn
begun time (Some (forms.Run m limit once)) answer =
    if is_entered answer
    then record {
      mode = m;
      once = once;
      deadline = deadline_of time limit;
      last = None;
      handled = false;
      stopped = false;
      result = None;
    } ∷ []
    else []
begun time _ answer = []

-- the number in an answer to a test, if it is the result of a run
abbrev pub result_in : Answer → Option ℕ
result_in (answers.Number (pos n)) = Some n
result_in _ = None

-- a run after the entry of a phase: a test tells its result, or that another turn begins, in which no source was
-- called yet
abbrev pub in_phase : Phase → Answer → Turn → Turn
in_phase phases.Test answer r = record r {
  last = Some phases.Test;
  result = result_in answer;
  handled = if is_some (result_in answer) then r.handled else false;
}
in_phase p answer r = record r { last = Some p }

-- a source was called in the turn of a run
abbrev pub with_source : Turn → Turn
with_source r = record r { handled = true }

-- a run is told to stop
abbrev pub with_stop : Turn → Turn
with_stop r = record r { stopped = true }

-- the innermost run is changed
abbrev pub innermost : (Turn → Turn) → List Turn → List Turn
innermost f [] = []
innermost f (r ∷ rs) = f r ∷ rs

-- the runs after an action of their thread that no statement writes: a phase is of the innermost run, which the last
-- one ends, and a source is called by the innermost run
abbrev pub runs_with : (earlier : List Entry) → Action → Answer → List Turn → List Turn
runs_with earlier (actions.Note a) answer rs = innermost (in_phase (phases.Note a) answer) rs
runs_with earlier actions.Sources answer rs = innermost (in_phase phases.Sources answer) rs
runs_with earlier actions.Timers answer rs = innermost (in_phase phases.Timers answer) rs
runs_with earlier actions.Sleep answer rs = innermost (in_phase phases.Sleep answer) rs
runs_with earlier actions.Test answer rs = innermost (in_phase phases.Test answer) rs
runs_with earlier (actions.Ran m) answer rs = drop 1 rs
runs_with earlier (actions.Call h (Some i) info) answer rs =
    if is_source_after earlier i then innermost with_source rs else rs
runs_with earlier a answer rs = rs

-- the runs after an entry of their thread
abbrev pub runs_own : Script → (earlier : List Entry) → Entry → List Turn → List Turn
runs_own s earlier e rs =
    begun (time_after earlier) (statement_of s e.action) e.answer ++ runs_with earlier e.action e.answer rs

-- the thread whose innermost run a statement of a thread stops
abbrev pub stopped_by : ℕ → Option Statement → Option ℕ
stopped_by t (Some (forms.Stop u)) = thread_in t u
stopped_by t _ = None

-- an entry stops the innermost run of this thread, which is accepted
abbrev pub stops : Script → ℕ → Entry → Bool
stops s t e = names t (stopped_by e.thread (statement_of s e.action)) && is_ok e.answer

-- the runs of a thread after an entry, of any thread
abbrev pub runs_after : Script → ℕ → (earlier : List Entry) → Entry → List Turn → List Turn
runs_after s t earlier e rs =
    let own = if e.thread == t then runs_own s earlier e rs else rs in
    if stops s t e then innermost with_stop own else own

-- the runs of a thread after entries that stand after earlier ones
abbrev pub runs_from : Script → ℕ → (earlier : List Entry) → List Turn → List Entry → List Turn
runs_from s t earlier rs [] = rs
runs_from s t earlier rs (e ∷ es) = runs_from s t (earlier ++ e ∷ []) (runs_after s t earlier e rs) es

-- the runs of a thread that are open after entries
abbrev pub open_runs : Script → List Entry → ℕ → List Turn
open_runs s es t = runs_from s t [] [] es

-- ---- the turn

-- what a turn depends on after entries: of these the loop's mode alone is read from the state, which has its items
abbrev pub turn_facts_after : Script → List Entry → ℕ → Turn → TurnFacts
turn_facts_after s es t r = record {
  handled = r.handled;
  once = r.once;
  past = has_come r.deadline (time_after es);
  stopped = r.stopped;
  empty = is_empty_mode (After s es) t r.mode;
}

-- the phase that an entry is of, if it is one
abbrev pub phase_in : Action → Option Phase
phase_in (actions.Note a) = Some (phases.Note a)
phase_in actions.Sources = Some phases.Sources
phase_in actions.Timers = Some phases.Timers
phase_in actions.Sleep = Some phases.Sleep
phase_in actions.Test = Some phases.Test
phase_in (actions.Ran m) = Some phases.Ran
phase_in _ = None

-- a phase follows the last one by the table: a run begins with note 1, and after a test its result decides
abbrev pub IsNextPhase : TurnFacts → (result : Option ℕ) → (last : Option Phase) → Phase → Type 0
IsNextPhase f result None p = p ≡ phases.Note 1
IsNextPhase f result (Some phases.Test) p = p ≡ (if is_some result then phases.Note 128 else phases.Note 2)
IsNextPhase f result (Some q) p = next_of f q ≡ Some p

-- a result as an answer, or that another turn comes
abbrev pub answer_to_test : Option ℕ → Answer
answer_to_test None = answers.Again
answer_to_test (Some n) = answers.Number (pos n)

-- a test answers the first result that applies, or that another turn comes; a run ends with the result of its last
-- test
abbrev pub AnswersPhase : TurnFacts → (result : Option ℕ) → Phase → Answer → Type 0
AnswersPhase f result phases.Test answer = answer ≡ answer_to_test (result_of f)
AnswersPhase f result phases.Ran answer = answer ≡ answer_to_test result
AnswersPhase f result p answer = Unit {0}

-- an entry that is a phase is the next one of its thread's innermost run, and answers as the table says
pub record FollowsTurn (s : Script) (es : List Entry) (e : Entry) (p : Phase) : Type 0 where
  pub run : Turn
  pub outer : List Turn
  pub runs : open_runs s es e.thread ≡ run ∷ outer
  pub next : IsNextPhase (turn_facts_after s es e.thread run) run.result run.last p
  pub answer : AnswersPhase (turn_facts_after s es e.thread run) run.result p e.answer

-- the entries of each run follow the turn's table
abbrev pub TurnsFit : Script → List Entry → Type 0
TurnsFit s es =
    (earlier later : List Entry) (e : Entry) (p : Phase) → es ≡ earlier ++ e ∷ later → phase_in e.action ≡ Some p
    → FollowsTurn s earlier e p
