-- The times of a clock along a journal with one entry more.
use Rattle.std.proofs.Common.{◌≡◌, ℕ, List, [], ◌∷◌, ◌++◌, drop, Option, Some, None, refl, sym, ap, ◌∙◌, subst}
use Rattle.std.specs.Prelude.{IfSome}
use Rattle.std.specs.Option.{option_map}
use Rattle.cf_syntax.specs.declared.script.Script.{Script}
use Rattle.cf_next.specs.declared.action.Action.{Action}
use Rattle.cf_next.specs.declared.action.Action.TheVariants as actions
use Rattle.cf_model.specs.declared.entry.Entry.{Entry}
use Rattle.cf_model.specs.State.{State, start}
use Rattle.cf_model.specs.Runs.{time_given}
use Rattle.cf_model.specs.Journals.{after_action, state_from, After, due_date}
use Rattle.cf_history.specs.Clocks.{IsTickBy, times_left, IsTimedFrom}
use Rattle.cf_outside.specs.Times as clocks
use Rattle.cf_serial.specs.Serial.{times_after, ClockFits}

-- the times that a clock leaves after one more entry
pub times-more : (es : List Entry) (e : Entry) (ts : List ℕ)
    → times_after (es ++ e ∷ []) ts ≡ times_left e.action (times_after es ts)
times-more [] e ts = refl
times-more (f ∷ es) e ts = times-more es e (times_left f.action ts)

pub timed-more : (s : Script) (st : State) (ts : List ℕ) (es : List Entry) (e : Entry) → IsTimedFrom s st ts es
    → IsTickBy (due_date s (state_from s st es)) (times_after es ts) e.action → IsTimedFrom s st ts (es ++ e ∷ [])
timed-more s st ts [] e h tick = (tick, tt)
timed-more s st ts (f ∷ es) e h tick =
    (h.0, timed-more s (after_action s f.thread st f.action) (times_left f.action ts) es e h.1 tick)

-- an action that moves no time
pub record MovesNoTime (a : Action) : Type 0 where
  pub ticks : (date : Option ℕ) (ts : List ℕ) → IsTickBy date ts a
  pub left : (ts : List ℕ) → times_left a ts ≡ ts

pub stall_still : MovesNoTime actions.Stall
stall_still = record { ticks = λ date ts. tt; left = λ ts. refl }

-- a clock fits once an entry is made that moves no time
pub fits_still : (s : Script) (es : List Entry) (e : Entry) (before now : Option (List ℕ)) → MovesNoTime e.action
    → ClockFits s es before now → ClockFits s (es ++ e ∷ []) before now
fits_still s es e None now still h = h
fits_still s es e (Some ts) now still h = (
  h.0 ∙ ap (λ (xs : List ℕ). Some xs) (sym (times-more es e ts ∙ still.left (times_after es ts))),
  timed-more s (start s) ts es e h.1 (still.ticks (due_date s (After s es)) (times_after es ts)),
)

-- ---- ticks

given_same : (date : ℕ) (ts : List ℕ) → clocks.reached date ts ≡ time_given date ts
given_same date [] = refl
given_same date (t ∷ ts) = refl

left_same : (ts : List ℕ) → clocks.times_left ts ≡ drop 1 ts
left_same [] = refl
left_same (t ∷ ts) = refl

tick_by : (s : Script) (st : State) (ts : List ℕ) (date time : ℕ) → due_date s st ≡ Some date
    → time ≡ clocks.reached date ts → IsTickBy (due_date s st) ts (actions.Tick time)
tick_by s st ts date time due is =
    subst (λ (d : Option ℕ). IsTickBy d ts (actions.Tick time)) (sym due) (is ∙ given_same date ts)

some_is : (xs ys : List ℕ) → ◌≡◌ {A = Option (List ℕ)} (Some xs) (Some ys) → xs ≡ ys
some_is xs ys e = cc

no_some : (xs : List ℕ) → ◌≡◌ {A = Option (List ℕ)} None (Some xs) → ⊥
no_some xs e = cc

-- a clock fits once a tick is made to the time that it reached
pub fits_tick : (s : Script) (es : List Entry) (e : Entry) (before now next : Option (List ℕ)) (date time : ℕ)
    → e.action ≡ actions.Tick time → due_date s (After s es) ≡ Some date
    → IfSome now (λ ts. time ≡ clocks.reached date ts) → next ≡ option_map clocks.times_left now
    → ClockFits s es before now → ClockFits s (es ++ e ∷ []) before next
fits_tick s es e None None next date time is due reached left h = left
fits_tick s es e None (Some xs) next date time is due reached left h = absurd (no_some xs (sym h))
fits_tick s es e (Some ts) None next date time is due reached left h = absurd (no_some (times_after es ts) h.0)
fits_tick s es e (Some ts) (Some xs) next date time is due reached left h =
    let same : xs ≡ times_after es ts = some_is xs (times_after es ts) h.0 in
    let rest : times_left e.action (times_after es ts) ≡ drop 1 (times_after es ts) = ap (λ (a : Action). times_left a (times_after es ts)) is in (
      left ∙ ap (λ (ys : List ℕ). Some ys) (left_same xs ∙ ap (λ (ys : List ℕ). drop 1 ys) same ∙ sym (times-more es e ts ∙ rest)),
      timed-more s (start s) ts es e h.1
          (subst (λ (a : Action). IsTickBy (due_date s (After s es)) (times_after es ts) a) (sym is)
          (tick_by s (After s es) (times_after es ts) date time due
          (reached ∙ ap (λ (ys : List ℕ). clocks.reached date ys) same))),
    )
