-- What becomes of the parts of a state has its number, and adds one at most.
use Rattle.std.proofs.Common.{◌≡◌, ℕ, ◌+◌, ◌<◌, [], ◌∷◌, ◌++◌, length, Some, inl, inr, sym, ap, subst, arith}
use Rattle.std.proofs.lemmas.List.{length-map, length_push}
use Rattle.std.specs.Prelude.{◌⊎◌, IsTrue, Option, None, if◌then◌else◌}
use Rattle.cf_ids.specs.declared.limits.TheConstants.{OBJECTS}
use Rattle.rl_base.specs.declared.registrations.Registration.{Registration}
use Rattle.rl_base.specs.Receivers.{forgets, is_there_and}
use Rattle.cf_syntax.specs.declared.script.Script.{Script}
use Rattle.cf_next.specs.declared.action.Action.TheVariants as actions
use Rattle.cf_next.specs.declared.step.Step.{Step}
use Rattle.cf_next.specs.Demands.{Demand}
use Rattle.cf_next.specs.Steps.{IsStep, demand_of}
use Rattle.cf_model.specs.declared.entry.Entry.{Entry}
use Rattle.cf_model.specs.Journals.{makes_line, ticked}
use Rattle.cf_model.specs.Known.{facts_of}
use Rattle.cf_model.specs.State.{Parts, State, stand_at}
use Rattle.cf_model.specs.Steps as steps
use Rattle.cf_model.specs.Steps.{acted, frames_at, step_of}
use Rattle.cf_model.proofs.Adding.{entry_adds}
use Rattle.cf_state.specs.declared.update.Update.{Update}
use Rattle.cf_state.specs.declared.update.Update.TheVariants as updates
use Rattle.cf_state.specs.Rooms.{HasNumber}
use Rattle.cf_state.specs.Updates.{updated}
use Rattle.cf_steps.specs.declared.done.Done.{Done}
use Rattle.cf_machine.specs.Entering.{GrowsByOne, HasRoom, IsDone, IsNext}

-- at most one of each is added
pub updated-grows : (u : Update) (p : Parts) → GrowsByOne p (updated u p)
updated-grows updates.Nothing p = record { slots = omega arith; registrations = omega arith }
updated-grows (updates.Change o change) p = record { slots = omega arith; registrations = omega arith }
updated-grows (updates.Make ob) p = record { slots = omega arith; registrations = omega arith }
updated-grows (updates.Common t m) p = record { slots = omega arith; registrations = omega arith }
updated-grows (updates.Observe r) p =
    record { slots = omega arith; registrations = omega (arith, length_push p.registrations (Some r)) }
updated-grows (updates.Forget o name filter) p =
    let gone = λ (r : Option Registration). if is_there_and (forgets o name filter) r then None else r in
    record { slots = omega arith; registrations = omega (arith, length-map p.registrations gone) }
updated-grows (updates.Flag t f) p = record { slots = omega arith; registrations = omega arith }
updated-grows updates.Start p = record { slots = omega arith; registrations = omega arith }
updated-grows (updates.Drop b) p = record { slots = omega arith; registrations = omega arith }

-- a demand makes an object only if it is of a form that may
abbrev Adds : ℕ → ℕ → Type 0 → Type 0
Adds before after makes = (after ≡ before) ⊎ (makes × (after ≡ before + 1))

step-adds : (s : Script) (t : ℕ) (st : State) (x : Step) → IsStep s (facts_of st) t (stand_at t st.stands) x
    → Adds (length st.parts.objects) (length (step_of s t st (frames_at t st) (demand_of x)).parts.objects)
    (IsTrue (makes_line (Some (demand_of x))))
step-adds s t st x h =
    subst (λ (d : Option Demand). Adds (length st.parts.objects) (length (acted s t st d).parts.objects) (IsTrue (makes_line d))) h.demand (entry_adds s t st actions.Done).objects

number-there : (u : Update) (p q : Parts) (makes : Type 0) → updated u p ≡ q
    → Adds (length p.objects) (length q.objects) makes
    → (makes → length p.objects < OBJECTS) → HasRoom p → HasNumber u p
number-there updates.Nothing p q makes is adds few room = tt
number-there (updates.Change o change) p q makes is adds few room = tt
number-there (updates.Make ob) p q makes is adds few room =
    let long : length (p.objects ++ ob ∷ []) ≡ length q.objects = ap (λ (r : Parts). length r.objects) is in
    let push : length (p.objects ++ ob ∷ []) ≡ length p.objects + 1 = length_push p.objects ob in
    elim adds [ inl e ↦ absurd (omega (arith, long, push, e)) | inr m ↦ few m.0 ]
number-there (updates.Common t m) p q makes is adds few room = tt
number-there (updates.Observe r) p q makes is adds few room = room.registrations
number-there (updates.Forget o name filter) p q makes is adds few room = tt
number-there (updates.Flag t f) p q makes is adds few room = tt
number-there updates.Start p q makes is adds few room = tt
number-there (updates.Drop b) p q makes is adds few room = room.slots

-- so there is a number for it
pub number-of : (s : Script) (st : State) (e : Entry) (x : Step) (d : Done) → IsNext s st e x → IsDone s st e x d
    → HasRoom st.parts → HasNumber d.update st.parts
number-of s st e x d h same room =
    number-there d.update st.parts (step_of s e.thread st (frames_at e.thread st) (demand_of x)).parts
    (IsTrue (makes_line (Some (demand_of x)))) (ap (λ (y : steps.Step). y.parts) same)
    (step-adds s e.thread st x h.step) h.room room

-- a tick adds none
pub tick-grows : (time : ℕ) (st next : State) → next ≡ ticked time st → GrowsByOne st.parts next.parts
tick-grows time st next is =
    subst (λ (x : State). GrowsByOne st.parts x.parts) (sym is) (record { slots = omega arith; registrations = omega arith })

pub none-grows : (p : Parts) → GrowsByOne p p
none-grows p = record { slots = omega arith; registrations = omega arith }
