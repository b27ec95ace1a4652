-- A legal journal with a stall leaves all asleep, and so is not whole.
use Rattle.std.proofs.Common.{◌≡◌, Bool, true, false, ◌&&◌, ◌||◌, List, [], ◌∷◌, refl, ap, ◌∙◌}
use Rattle.std.specs.Prelude.{IsTrue}
use Rattle.cf_syntax.specs.declared.script.Script.{Script}
use Rattle.cf_next.specs.declared.action.Action.{Action}
use Rattle.cf_next.specs.declared.action.Action.TheVariants as actions
use Rattle.cf_model.specs.declared.entry.Entry.{Entry}
use Rattle.cf_model.specs.State.{State, start}
use Rattle.cf_model.specs.Journals.{after_action, all_sleep, due_date, has_stalled, IsLastIf, IsLegal, IsLegalAs, IsLegalFrom, is_none, is_stall, IsWhole, state_from}
use Rattle.cf_model.proofs.Leading.{lead_tells}

first_of_both : (a b : Bool) → (a && b) ≡ true → a ≡ true
first_of_both true b e = refl
first_of_both false b e = e

-- a stall is a journal's last entry, changes nothing, and comes where all sleep
record Stalls (s : Script) (st : State) (a : Action) (es : List Entry) : Type 0 where
  last : es ≡ []
  action : a ≡ actions.Stall
  asleep : all_sleep s st ≡ true

stalls_here : (s : Script) (st : State) (e : Entry) (a : Action) (es : List Entry) → IsLegalAs s st e a → IsLastIf a es
    → is_stall a ≡ true → Stalls s st a es
stalls_here s st e actions.Stall es h last is =
    record { last = last; action = refl; asleep = first_of_both (all_sleep s st) (is_none (due_date s st)) h.2 }
stalls_here s st e a es h last is = absurd cc

sleeps_by : (s : Script) (st : State) (e : Entry) (es : List Entry) (b : Bool) → is_stall e.action ≡ b
    → (b || has_stalled es) ≡ true → IsLegalAs s st e e.action → IsLastIf e.action es
    → (has_stalled es ≡ true → all_sleep s (state_from s (after_action s e.thread st e.action) es) ≡ true)
    → all_sleep s (state_from s (after_action s e.thread st e.action) es) ≡ true
sleeps_by s st e es true is stalled h last later =
    let here = stalls_here s st e e.action es h last is in
    ap (λ (fs : List Entry). all_sleep s (state_from s (after_action s e.thread st e.action) fs)) here.last
    ∙ ap (λ (a : Action). all_sleep s (after_action s e.thread st a)) here.action ∙ here.asleep
sleeps_by s st e es false is stalled h last later = later stalled

sleeps_after : (s : Script) (st : State) (es : List Entry) → IsLegalFrom s st es → has_stalled es ≡ true
    → all_sleep s (state_from s st es) ≡ true
sleeps_after s st [] h stalled = absurd cc
sleeps_after s st (e ∷ es) h stalled =
    sleeps_by s st e es (is_stall e.action) refl stalled h.0 h.1
    (sleeps_after s (after_action s e.thread st e.action) es h.2)

pub stalled_not_whole : (s : Script) (es : List Entry) → IsLegal s es → IsTrue (has_stalled es) → IsWhole s es → ⊥
stalled_not_whole s es legal stalled whole = (lead_tells s es).asleep (sleeps_after s (start s) es legal stalled) whole
