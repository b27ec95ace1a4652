-- What holds of each step that a phase can be holds of the step of a phase.
use Rattle.std.proofs.Common.{Bool, List, Option, [], cond, false, true, ℕ}
use Rattle.cf_ids.specs.declared.answer.Answer.TheVariants as answers
use Rattle.rl_base.specs.Dates.{earlier}
use Rattle.rl_turn.specs.declared.phases.Phase.{Phase}
use Rattle.rl_turn.specs.declared.phases.Phase.TheVariants as phases
use Rattle.cf_next.specs.Stands.{Kind, Turn, of_block, of_handler, of_run}
use Rattle.cf_next.specs.Turns.{test_result}
use Rattle.cf_model.specs.Known.{facts_of}
use Rattle.cf_model.specs.State.{State, awake, until}
use Rattle.cf_model.specs.Steps.{Step, idle, phase_step, result_answer, sleep_step, sleeping, turn_step}
use Rattle.cf_model.specs.Things.{collected_of, items_in, mode_date}

-- a loop that was woken, one that has something due, one that sleeps, a test, and a phase that collects
pub record PhaseCases (P : Step → Type 0) (st : State) (t : ℕ) : Type 0 where
  pub woken : P (sleeping st t answers.Woken awake)
  pub due : P (idle st answers.Due)
  pub sleeps : (date : Option ℕ) → P (sleeping st t (answers.Asleep date) (until date))
  pub tests : (result : Option ℕ) → P (idle st (result_answer result))
  pub collects : (list : List ℕ) → P (record (idle st answers.Ok) { list = list })

either_step : (P : Step → Type 0) (b : Bool) (x y : Step) → P x → P y → P (cond b x y)
either_step P true x y h k = h
either_step P false x y h k = k

sleep_case : (P : Step → Type 0) (st : State) (t : ℕ) (r : Turn) → PhaseCases P st t → P (sleep_step st t r)
sleep_case P st t r h =
    either_step P _ _ _ h.woken
    (either_step P _ _ _ h.due (h.sleeps (earlier r.deadline (mode_date st t r.mode))))

turn_case : (P : Step → Type 0) (st : State) (t : ℕ) (r : Turn) (p : Phase) → PhaseCases P st t → P (turn_step st t r p)
turn_case P st t r phases.Sleep h = sleep_case P st t r h
turn_case P st t r phases.Test h = h.tests (test_result (facts_of st) t r)
turn_case P st t r p h = h.collects (collected_of st.parts p (items_in st t r.mode))

pub phase_case : (P : Step → Type 0) (st : State) (t : ℕ) (p : Phase) (k : Kind) → PhaseCases P st t
    → P (phase_step st t p k)
phase_case P st t p (of_run r) h = turn_case P st t r p h
phase_case P st t p of_block h = h.collects []
phase_case P st t p (of_handler k) h = h.collects []
