-- What the laws say: the bits and numbers of the state after a journal are the sentences over its entries. And
-- journals in the serial order are determined by their length and the times of their ticks. This project's own.
use Rattle.std.specs.Prelude.{◌≡◌, ℕ, List, length, Option}
use Rattle.cf_syntax.specs.declared.script.Script.{Script}
use Rattle.cf_model.specs.declared.entry.Entry.{Entry}
use Rattle.cf_model.specs.State.{is_made, is_live}
use Rattle.cf_model.specs.Things.{thing_at, is_signalled_thing, is_valid_thing, date_of_thing, is_due}
use Rattle.cf_model.specs.Deals.{live_receivers}
use Rattle.cf_model.specs.Journals.{After}
use Rattle.cf_model.specs.Sharing.{tick_times}
use Rattle.cf_model.specs.Serial.{IsSerial}
use Rattle.cf_history.specs.History.{is_signalled_after, is_valid_after, is_made_after, is_live_after}
use Rattle.cf_history.specs.Timing.{time_after, date_after_entries, is_due_after}
use Rattle.cf_history.specs.Notices.{receivers_after}
use Rattle.cf_history.specs.Clocks.{IsTimed}

-- a source is signalled in the state exactly if the entries say so
abbrev pub SignalsAgree : Script → List Entry → Type 0
SignalsAgree s es = (i : ℕ) → is_signalled_thing (thing_at (After s es).parts i) ≡ is_signalled_after es i

-- an item is valid in the state exactly if the entries say so
abbrev pub ValidityAgrees : Script → List Entry → Type 0
ValidityAgrees s es = (i : ℕ) → is_valid_thing (thing_at (After s es).parts i) ≡ is_valid_after es i

-- an object was made, and is live, in the state exactly if the entries say so
pub record LivesAgree (s : Script) (es : List Entry) : Type 0 where
  pub made : (o : ℕ) → is_made (After s es).parts o ≡ is_made_after es o
  pub live : (o : ℕ) → is_live (After s es).parts o ≡ is_live_after es o

-- the time of the state, and the date of each timer, are those that the entries say, and so a timer is due in the
-- state exactly if the entries say so
pub record DatesAgree (s : Script) (es : List Entry) : Type 0 where
  pub time : (After s es).parts.time ≡ time_after es
  pub date : (i : ℕ) → date_of_thing (thing_at (After s es).parts i) ≡ date_after_entries s es i
  pub due : (i : ℕ) → is_due (After s es).parts i ≡ is_due_after s es i

-- the receivers of each notice in the state are those that the entries say
abbrev pub ReceiversAgree : Script → List Entry → Type 0
ReceiversAgree s es =
    (name : ℕ) (object : Option ℕ) → live_receivers (After s es).parts name object ≡ receivers_after s es name object

-- two journals in the serial order that are as long, with the same times of their ticks, are one
abbrev pub IsOnlySerial : Script → List Entry → List Entry → Type 0
IsOnlySerial s es fs = IsSerial s es → IsSerial s fs → length es ≡ length fs → tick_times es ≡ tick_times fs → es ≡ fs

-- two journals in the serial order that are as long, with the times of a clock that tells this list, are one
abbrev pub IsOnlyTimed : Script → (times : List ℕ) → List Entry → List Entry → Type 0
IsOnlyTimed s times es fs =
    IsSerial s es → IsSerial s fs → IsTimed s times es → IsTimed s times fs → length es ≡ length fs → es ≡ fs
