-- What is asked of an entry makes it legal, and the state after it is that of its thread's demand.
use Rattle.std.proofs.Common.{◌≡◌, ℕ, ◌<◌, Bool, true, List, ◌++◌, length, Some, refl, sym, ap, ◌∙◌, subst}
use Rattle.std.specs.Prelude.{◌↔◌, IfOk, IsTrue, Result}
use Rattle.std.specs.declared.result.Result.TheVariants.{Ok, Err}
use Rattle.cf_ids.specs.declared.answer.Answer.{Answer}
use Rattle.cf_ids.specs.declared.limits.TheConstants.{OBJECTS}
use Rattle.cf_graph.specs.Edges.{Reference}
use Rattle.cf_graph.specs.Flows.{cut_of, flowed}
use Rattle.cf_syntax.specs.declared.script.Script.{Script}
use Rattle.cf_next.specs.declared.action.Action.{Action}
use Rattle.cf_next.specs.declared.action.Action.TheVariants as actions
use Rattle.cf_next.specs.declared.step.Step.{Step}
use Rattle.cf_next.specs.Advance.{advanced}
use Rattle.cf_next.specs.Demands.{demand}
use Rattle.cf_next.specs.Facts.{Facts}
use Rattle.cf_next.specs.Standing.{finals_in}
use Rattle.cf_next.specs.Stands.{Stand}
use Rattle.cf_next.specs.Steps.{IsStep, demand_of, step_cut}
use Rattle.cf_model.specs.declared.entry.Entry.{Entry}
use Rattle.cf_model.specs.Journals.{IsLegalAs, IsLegalEntry, IsLegalStep, MayUseAll, Next, after_action, makes_line, owners_of, uses_of}
use Rattle.cf_model.specs.Known.{facts_of}
use Rattle.cf_model.specs.State.{Parts, State, blank, stand_at, with_stand}
use Rattle.cf_model.specs.Steps as steps
use Rattle.cf_model.specs.Steps.{acted, answer_if, demanded, done_by, edges_after, finals_of, frames_at, step_answer, step_finals, step_of, stopped_at}
use Rattle.cf_model.proofs.Numbering.{acts_there}
use Rattle.cf_references.specs.Flows.{flow_of}
use Rattle.cf_state.specs.Known.{facts_in}
use Rattle.cf_state.specs.Updates.{updated}
use Rattle.cf_steps.specs.declared.done.Done.{Done}
use Rattle.cf_steps.specs.Doing as doing
use Rattle.cf_machine.specs.Entering.{GrowsByOne, IsDone, IsNext, entered}
use Rattle.cf_machine.proofs.Finishing.{finals-are}
use Rattle.cf_machine.proofs.Rooming.{updated-grows}

-- ---- what an entry leaves

-- a thread that does a step is there
pub there : (s : Script) (facts : Facts) (t : ℕ) (ss : List Stand) (x : Step) → IsStep s facts t (stand_at t ss) x
    → t < length ss
there s facts t ss x h = acts_there t ss (λ is. none (ap (demand s facts t) (sym is) ∙ h.demand))
  where
    none : demand s facts t blank ≡ Some (demand_of x) → ⊥
    none e = cc

-- the state is put together, by the facts of the references before
pub put-together : (t : ℕ) (x : Step) (a : Answer) (d : Done) (st : State) (parts : Parts) (es before : List Reference)
    (ss : List Stand) (last : List ℕ)
    → before ≡ st.edges → es ≡ flowed (flow_of d.flow) st.edges → last ≡ finals_of (cut_of (flow_of d.flow)) es
    → parts ≡ record (updated d.update st.parts) { finalised = last ++ (updated d.update st.parts).finalised }
    → ss ≡ stopped_at d.stops (with_stand t (advanced (facts_in st.parts before) t (demand_of x) a
    (finals_in (step_cut x) a) d.list.items (stand_at t st.stands)) st.stands)
    → ◌≡◌ {A = State} (record { parts = parts; edges = es; stands = ss }) (entered t x a (doing.step_of st.parts d) st)
put-together t x a d st parts es before ss last same edges finals changed moved =
    let after = updated d.update st.parts in
    let all : last ≡ step_finals (doing.step_of st.parts d) st = finals ∙ ap (finals_of (cut_of (flow_of d.flow))) edges in
    let whole : parts ≡ record after { finalised = step_finals (doing.step_of st.parts d) st ++ after.finalised }
    = changed ∙ ap (λ (fs : List ℕ). record after { finalised = fs ++ after.finalised }) all in
    let stands : Facts → List Stand = λ facts. stopped_at d.stops (with_stand t
    (advanced facts t (demand_of x) a (finals_in (step_cut x) a) d.list.items (stand_at t st.stands)) st.stands) in
    let facts : facts_in st.parts before ≡ facts_of st = ap (facts_in st.parts) same in
    let stood : ss ≡ stands (facts_of st) = moved ∙ ap stands facts in
    (λ i. record { parts = whole i; edges = edges i; stands = stood i })

-- at most one slot and one registration are added
pub entered-grows : (t : ℕ) (x : Step) (a : Answer) (d : Done) (st next : State)
    → next ≡ entered t x a (doing.step_of st.parts d) st → GrowsByOne st.parts next.parts
entered-grows t x a d st next is =
    let g = updated-grows d.update st.parts in
    let parts : next.parts ≡ (entered t x a (doing.step_of st.parts d) st).parts = ap (λ (s : State). s.parts) is in
    subst (GrowsByOne st.parts) (sym parts) (record { slots = g.slots; registrations = g.registrations })

done-is : (s : Script) (t : ℕ) (st : State) (x : Step) (step : steps.Step) (a : Answer)
    → IsStep s (facts_of st) t (stand_at t st.stands) x → step ≡ step_of s t st (frames_at t st) (demand_of x)
    → a ≡ step_answer (step_of s t st (frames_at t st) (demand_of x)) st
    → entered t x a step st ≡ done_by s t st (demand_of x)
done-is s t st x step a h same is =
    let d = demand_of x in
    let made = step_of s t st (frames_at t st) d in
    let left : Answer → List ℕ → State = λ b fs. record {
      parts = record made.parts { finalised = step_finals made st ++ made.parts.finalised };
      edges = edges_after made st;
      stands = stopped_at made.stops (with_stand t (advanced (facts_of st) t d b fs made.list (stand_at t st.stands)) st.stands);
    } in
    ap (λ y. entered t x a y st) same
    ∙ ap (λ b. left b (finals_in (step_cut x) a)) is
    ∙ ap (left (step_answer made st)) (finals-are s t st (frames_at t st) x a h.line is)

-- it is the state after what the thread demands
pub acted-is : (s : Script) (st : State) (e : Entry) (x : Step) (d : Done) (next : State) → IsNext s st e x
    → IsDone s st e x d → IsLegalStep s st e → next ≡ entered e.thread x e.answer (doing.step_of st.parts d) st
    → next ≡ acted s e.thread st (demanded s st e.thread)
acted-is s st e x d next h same legal is =
    let t = e.thread in
    let told = legal.answer ∙ ap (answer_if s t st) h.step.demand in
    is ∙ done-is s t st x (doing.step_of st.parts d) e.answer h.step same told ∙ sym (ap (acted s t st) h.step.demand)

-- ---- what is asked of an entry

-- it may use what it uses, and has the answer of what it does
pub legal-is : (s : Script) (st : State) (e : Entry) (x : Step) (d : Done) → IsNext s st e x → IsDone s st e x d
    → (b : Bool) → ((b ≡ true) ↔ (MayUseAll st e.thread (owners_of e.action) (uses_of e.action e.answer)
    × (e.answer ≡ step_answer (doing.step_of st.parts d) st)))
    → (b ≡ true) ↔ IsLegalStep s st e
legal-is s st e x d h same b asked =
    let told : step_answer (doing.step_of st.parts d) st ≡ answer_if s e.thread st (demanded s st e.thread)
    = ap (λ (y : steps.Step). step_answer y st) same ∙ sym (ap (answer_if s e.thread st) h.step.demand) in (
      λ yes. record {
        next = h.next;
        uses = (asked.0 yes).0;
        answer = (asked.0 yes).1 ∙ told;
        room = λ m. h.room (ap makes_line (sym h.step.demand) ∙ m);
      },
      λ legal. asked.1 (legal.uses, legal.answer ∙ sym told),
    )

-- an entry that is not its thread's next action is not legal
pub not-next : (s : Script) (st : State) (e : Entry) → (Next s st e.thread ≡ Some e.action → ⊥)
    → IsLegalStep s st e → ⊥
not-next s st e not legal = not legal.next

-- one that makes an object for which there is no number is not legal
pub no-place : (s : Script) (st : State) (e : Entry) (x : Step)
    → IsStep s (facts_of st) e.thread (stand_at e.thread st.stands) x
    → ((IsTrue (makes_line (Some (demand_of x))) → length st.parts.objects < OBJECTS) → ⊥) → IsLegalStep s st e → ⊥
no-place s st e x h not legal = not (λ m. legal.room (ap makes_line h.demand ∙ m))

-- ---- entries of threads

-- an entry that is neither a tick nor a stall is legal as its thread's step
step-legal : (s : Script) (st : State) (e : Entry) (a : Action) → ((n : ℕ) → a ≡ actions.Tick n → ⊥)
    → (a ≡ actions.Stall → ⊥) → IsLegalAs s st e a ↔ IsLegalStep s st e
step-legal s st e (actions.Tick n) tick stall = absurd (tick n refl)
step-legal s st e actions.Stall tick stall = absurd (stall refl)
step-legal s st e a tick stall = (λ h. h, λ h. h)

step-after : (s : Script) (t : ℕ) (st : State) (a : Action) → ((n : ℕ) → a ≡ actions.Tick n → ⊥)
    → (a ≡ actions.Stall → ⊥) → acted s t st (demanded s st t) ≡ after_action s t st a
step-after s t st (actions.Tick n) tick stall = absurd (tick n refl)
step-after s t st actions.Stall tick stall = absurd (stall refl)
step-after s t st a tick stall = refl

-- the same where memory was not wanting
pub step-legal-if : {E : Type 0} (r : Result Bool E) (s : Script) (st : State) (e : Entry)
    → ((n : ℕ) → e.action ≡ actions.Tick n → ⊥) → (e.action ≡ actions.Stall → ⊥)
    → IfOk r (λ b. (b ≡ true) ↔ IsLegalStep s st e) → IfOk r (λ b. (b ≡ true) ↔ IsLegalEntry s st e)
step-legal-if (Ok b) s st e tick stall h =
    let same = step-legal s st e e.action tick stall in (λ yes. same.1 (h.0 yes), λ legal. h.1 (same.0 legal))
step-legal-if (Err f) s st e tick stall h = tt

pub step-after-if : {E : Type 0} (A : Type 0) (r : Result Bool E) (s : Script) (st next : State) (e : Entry)
    → ((n : ℕ) → e.action ≡ actions.Tick n → ⊥) → (e.action ≡ actions.Stall → ⊥)
    → IfOk r (λ b. b ≡ true → (next ≡ acted s e.thread st (demanded s st e.thread)) × A)
    → IfOk r (λ b. b ≡ true → (next ≡ after_action s e.thread st e.action) × A)
step-after-if A (Ok b) s st next e tick stall h =
    λ yes. ((h yes).0 ∙ step-after s e.thread st e.action tick stall, (h yes).1)
step-after-if A (Err f) s st next e tick stall h = tt

-- and what holds besides holds of each that is legal
pub and-also : {E : Type 0} (r : Result Bool E) (A B : Type 0) → B → IfOk r (λ b. (b ≡ true) ↔ A)
    → IfOk r (λ b. (b ≡ true) ↔ (A × B))
and-also (Ok b) A B besides h = (λ yes. (h.0 yes, besides), λ both. h.1 both.0)
and-also (Err f) A B besides h = tt
