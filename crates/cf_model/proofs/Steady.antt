-- Along every legal journal of every script: each object's finals, and one more if a reference leads to it, are one
-- if it was made and else nothing; the slots of each body are its contents but for what it gave up; and a body that
-- is not finalised has given up nothing.
use Rattle.std.proofs.Common.{◌≡◌, ℕ, zero, suc, ◌+◌, Bool, List, ◌++◌, length, ltb, refl, arith}
use Rattle.std.proofs.lemmas.Bool.Decides.{nat_tests}
use Rattle.cf_syntax.specs.declared.script.Script.{Script}
use Rattle.cf_contents.specs.Contents.{times}
use Rattle.cf_contents.proofs.SlotLaws.{times-append}
use Rattle.cf_graph.specs.Holders.{slot}
use Rattle.cf_graph.specs.Edges.{held_by, one, counted, degree}
use Rattle.cf_graph.proofs.Flows.{weigh-flow}
use Rattle.cf_next.specs.Demands.{Demand}
use Rattle.cf_model.specs.State.{State, start}
use Rattle.cf_model.specs.Steps.{Step, step_finals, state_after}
use Rattle.cf_model.specs.Journals.{ticked}
use Rattle.cf_model.proofs.Balance.{IsBalanced, step_balance}
use Rattle.cf_model.proofs.DealLaws.{AreSlotted}
use Rattle.cf_model.proofs.Fitting.{StepFits}

pub record IsSteady (st : State) : Type 0 where
  pub balance : IsBalanced st
  pub slotted : AreSlotted st
  pub undropped : (b : ℕ) → times b st.parts.finalised ≡ 0 → times b st.parts.dropped ≡ 0

undropped_after : (finals finalised dropped after : List ℕ)
    → ((a : ℕ) → times a finalised ≡ 0 → times a after ≡ times a dropped)
    → ((b : ℕ) → times b finalised ≡ 0 → times b dropped ≡ 0) → (b : ℕ) → times b (finals ++ finalised) ≡ 0 → times b after ≡ 0
undropped_after finals finalised dropped after same h b none =
    let before : times b finalised ≡ 0 = omega (arith, none, times-append b finals finalised) in
    omega (arith, same b before, h b before)

-- a step that fits keeps all
pub step_steady : (t : ℕ) (d : Demand) (st : State) (step : Step) → IsSteady st → StepFits t st step
    → IsSteady (state_after t d step st)
step_steady t d st step h fits = record {
  balance = step_balance t d st step fits.finalised fits.there fits.flow h.balance;
  slotted = λ b o. omega (arith, weigh-flow (one (held_by (slot b) o)) step.flow st.edges fits.there, h.slotted b o, fits.slots b o);
  undropped = rw fits.finalised (undropped_after (step_finals step st) st.parts.finalised st.parts.dropped step.parts.dropped fits.undropped h.undropped);
}

pub ticked_steady : (n : ℕ) (st : State) → IsSteady st → IsSteady (ticked n st)
ticked_steady n st h = record { balance = h.balance; slotted = h.slotted; undropped = h.undropped }

pub start_steady : (s : Script) → IsSteady (start s)
start_steady s = record { balance = λ o. none o; slotted = slotted; undropped = λ b e. refl }
  where
    none : (o : ℕ) → 0 ≡ counted (ltb o 0)
    none o = grind (arith, nat_tests)

    slotted : AreSlotted (start s)
    slotted zero o = refl
    slotted (suc b) o = refl

-- an object that was not made has given up nothing
pub unmade_whole : (st : State) → IsSteady st → times (length st.parts.objects) st.parts.dropped ≡ 0
unmade_whole st h =
    let n = length st.parts.objects in
    h.undropped n (by (ltb 0 (degree n st.edges)) (times n st.parts.finalised) (omega (arith, h.balance n, unmade n)))
  where
    unmade : (n : ℕ) → counted (ltb n n) ≡ 0
    unmade n = grind (arith, nat_tests)

    by : (b : Bool) (m : ℕ) → m + counted b ≡ 0 → m ≡ 0
    by b m e = omega arith
