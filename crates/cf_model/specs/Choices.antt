-- What is left to choose in a journal: which thread makes an entry, and to which time the lead moves. This project's
-- own.
use Rattle.std.specs.Prelude.{◌≡◌, ℕ, List, map}
use Rattle.cf_syntax.specs.declared.script.Script.{Script}
use Rattle.cf_next.specs.declared.action.Action.{Action}
use Rattle.cf_next.specs.declared.action.Action.TheVariants as actions
use Rattle.cf_model.specs.declared.entry.Entry.{Entry}
use Rattle.cf_model.specs.Journals.{IsLegal}

-- what is chosen for an entry: the thread that makes a step, the time to which the lead moves, or a stall
pub data Choice : Type 0 where
  steps : (thread : ℕ) → Choice
  moves_time : (time : ℕ) → Choice
  stops_all : Choice

-- the choice that an action of a thread shows
abbrev pub choice_in : ℕ → Action → Choice
choice_in t (actions.Tick time) = moves_time time
choice_in t actions.Stall = stops_all
choice_in t a = steps t

-- the choices of a journal
abbrev pub choices_of : List Entry → List Choice
choices_of es = map (λ e. choice_in e.thread e.action) es

-- legal journals of a script with the same choices are one
abbrev pub IsDetermined : Script → List Entry → List Entry → Type 0
IsDetermined s es fs = IsLegal s es → IsLegal s fs → choices_of es ≡ choices_of fs → es ≡ fs
