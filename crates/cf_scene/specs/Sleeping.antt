-- What the sleep of a run leaves. This project's own.
use Rattle.std.specs.Prelude.{◌≡◌, ℕ, List}
use Rattle.cf_ids.specs.declared.answer.Answer.{Answer}
use Rattle.cf_next.specs.Stands.{Turn}
use Rattle.cf_model.specs.State.{State}
use Rattle.cf_model.specs.Steps.{sleep_step}
use Rattle.cf_scene.specs.Scenes.{all_flags}
use Rattle.cf_scene.specs.declared.flags.Flags.{Flags}

-- a thread's run has slept, or found that it need not: its answer, and the flags of all threads after it
pub record HasSlept (st : State) (t : ℕ) (r : Turn) (answer : Answer) (flags : List Flags) : Type 0 where
  pub answer_is : answer ≡ (sleep_step st t r).answer
  pub flags_are : all_flags flags ≡ (sleep_step st t r).parts.flags
