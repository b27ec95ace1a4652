-- What an entry does next, and the state that it leaves, by its answer.
use Rattle.std.specs.Prelude.{◌≡◌, ℕ, ◌+◌, ◌<◌, ◌≤◌, ◌++◌, IsTrue, Some, length}
use Rattle.cf_ids.specs.declared.answer.Answer.{Answer}
use Rattle.cf_ids.specs.declared.limits.TheConstants.{OBJECTS}
use Rattle.cf_syntax.specs.declared.script.Script.{Script}
use Rattle.cf_next.specs.declared.step.Step.{Step}
use Rattle.cf_next.specs.Advance.{advanced}
use Rattle.cf_next.specs.Standing.{finals_in}
use Rattle.cf_next.specs.Steps.{IsStep, demand_of, step_cut}
use Rattle.cf_model.specs.declared.entry.Entry.{Entry}
use Rattle.cf_model.specs.Journals.{Next, makes_line}
use Rattle.cf_model.specs.Known.{facts_of}
use Rattle.cf_model.specs.State.{Parts, State, stand_at, with_stand}
use Rattle.cf_model.specs.Steps as steps
use Rattle.cf_model.specs.Steps.{edges_after, frames_at, step_finals, step_of, stopped_at}
use Rattle.cf_steps.specs.declared.done.Done.{Done}
use Rattle.cf_steps.specs.Doing as doing

-- a step is what the thread of an entry does next, the entry's action is the step's, and there is a number for what it
-- makes
pub record IsNext (s : Script) (st : State) (e : Entry) (x : Step) : Type 0 where
  pub next : Next s st e.thread ≡ Some e.action
  pub step : IsStep s (facts_of st) e.thread (stand_at e.thread st.stands) x
  pub room : IsTrue (makes_line (Some (demand_of x))) → length st.parts.objects < OBJECTS

-- what is done is what the step of an entry does
abbrev pub IsDone : Script → State → Entry → Step → Done → Type 0
IsDone s st e x d = doing.step_of st.parts d ≡ step_of s e.thread st (frames_at e.thread st) (demand_of x)

-- the state that a step of a thread leaves, where its entry has this answer
abbrev pub entered : ℕ → Step → Answer → steps.Step → State → State
entered t x a step st = record {
  parts = record step.parts { finalised = step_finals step st ++ step.parts.finalised };
  edges = edges_after step st;
  stands = stopped_at step.stops (with_stand t
      (advanced (facts_of st) t (demand_of x) a (finals_in (step_cut x) a) step.list (stand_at t st.stands)) st.stands);
}

-- there is a number for a slot more that is given up, and for a registration more
pub record HasRoom (p : Parts) : Type 0 where
  pub slots : length p.dropped < 4294967294
  pub registrations : length p.registrations < 4294967294

-- at most one of each was added
pub record GrowsByOne (p q : Parts) : Type 0 where
  pub slots : length q.dropped ≤ length p.dropped + 1
  pub registrations : length q.registrations ≤ length p.registrations + 1
