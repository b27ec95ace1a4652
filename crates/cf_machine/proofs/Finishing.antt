-- What an entry finalises, by what it takes away and by its answer.
use Rattle.std.proofs.Common.{◌≡◌, ℕ, Bool, true, false, cond, List, [], ◌∷◌, slice_get, Option, Some, None, refl, sym, ap, subst, ◌∙◌}
use Rattle.std.specs.Prelude.{◌==◌, ◌↔◌}
use Rattle.std.proofs.lemmas.Bool.{eq-eqb}
use Rattle.cf_ids.specs.declared.answer.Answer.{Answer}
use Rattle.cf_ids.specs.declared.answer.Answer.TheVariants as answers
use Rattle.cf_syntax.specs.declared.script.Script.{Script}
use Rattle.cf_syntax.specs.declared.statement.Statement.{Statement}
use Rattle.cf_syntax.specs.declared.statement.Statement.TheVariants as forms
use Rattle.cf_syntax.specs.declared.mention.Ownership.{Ownership}
use Rattle.cf_syntax.specs.declared.mention.Ownership.TheVariants.{Keeps, Binds, Retains, Releases}
use Rattle.cf_syntax.specs.Mentions.{ownership_of}
use Rattle.cf_syntax.specs.BlockLines.{says}
use Rattle.cf_graph.specs.Holders.{Holder, owed, parcel, variable}
use Rattle.cf_graph.specs.Edges.{Reference, degree}
use Rattle.cf_graph.specs.Flows.{cut_of}
use Rattle.cf_contents.specs.Contents.{Object}
use Rattle.cf_next.specs.declared.object.Used.{Used}
use Rattle.cf_next.specs.declared.step.Step.{Step}
use Rattle.cf_next.specs.declared.step.Step.TheVariants as kinds
use Rattle.cf_next.specs.Standing.{finals_in}
use Rattle.cf_next.specs.Stands.{Frame, Kind, of_block, of_handler, of_run}
use Rattle.cf_next.specs.Steps.{IsLineStep, cut_by, demand_of, step_cut}
use Rattle.cf_next.specs.Views.{object_of, objects_of}
use Rattle.cf_next.specs.Next.{object_at, used_objects}
use Rattle.cf_next.specs.Advance.{top_kind}
use Rattle.cf_model.specs.State.{State, first_held}
use Rattle.cf_model.specs.Own.{own_reference}
use Rattle.cf_model.specs.Steps as steps
use Rattle.cf_model.specs.Steps.{bindings_of, cut_answer, cut_flow, cut_step, finals_of, statement_step, step_answer, step_finals, step_of, type_in}
use Rattle.cf_model.proofs.OwnLaws.{IsOf, own_is}
use Rattle.cf_model.proofs.Phases.{phase_case}
use Rattle.rl_turn.specs.declared.phases.Phase.{Phase}
use Rattle.cf_steps.proofs.Asking.{bindings-are}

-- an answer is told by what is taken away and by the references that are left
pub told-by : (b : Bool) (a other : Answer) (objects : List Object) (q r : Option ℕ) (es fs : List Reference)
    → q ≡ r → es ≡ fs → ((b ≡ true) ↔ (a ≡ cut_answer q objects es other))
    → (b ≡ true) ↔ (a ≡ cut_answer r objects fs other)
told-by b a other objects q r es fs cut edges h =
    subst (λ (x : List Reference). (b ≡ true) ↔ (a ≡ cut_answer r objects x other)) edges
    (subst (λ (x : Option ℕ). (b ≡ true) ↔ (a ≡ cut_answer x objects es other)) cut h)

-- nothing is finalised where nothing is taken away
pub none-in : (a : Answer) → finals_in None a ≡ []
none-in (answers.Final c) = refl
none-in _ = refl

pub step-none : (step : steps.Step) (st : State) (a : Answer) → cut_of step.flow ≡ None
    → finals_in None a ≡ step_finals step st
step-none step st a h = none-in a ∙ sym (ap (λ c. finals_of c (steps.edges_after step st)) h)

by-degree : (b : Bool) (o c : ℕ) → finals_in (Some o) (cond b (answers.Final c) answers.More) ≡ cond b (o ∷ []) []
by-degree true o c = refl
by-degree false o c = refl

pub cut-finals : (o : ℕ) (objects : List Object) (es : List Reference) (other a : Answer)
    → a ≡ cut_answer (Some o) objects es other → finals_in (Some o) a ≡ finals_of (Some o) es
cut-finals o objects es other a h =
    ap (finals_in (Some o)) h ∙ by-degree (degree o es == 0) o (type_in (slice_get objects o))

pub step-cut : (step : steps.Step) (st : State) (o : ℕ) (a : Answer) → cut_of step.flow ≡ Some o
    → a ≡ step_answer step st → finals_in (Some o) a ≡ step_finals step st
step-cut step st o a h is =
    let told : a ≡ cut_answer (Some o) st.parts.objects (steps.edges_after step st) step.answer
    = is ∙ ap (λ c. cut_answer c st.parts.objects (steps.edges_after step st) step.answer) h in
    cut-finals o st.parts.objects (steps.edges_after step st) step.answer a told
    ∙ sym (ap (λ c. finals_of c (steps.edges_after step st)) h)

own-step : (t : ℕ) (h : Holder) (o : ℕ) (st : State) (a : Answer) → IsOf t h → a ≡ step_answer (cut_step t h st o) st
    → finals_in (Some o) a ≡ step_finals (cut_step t h st o) st
own-step t h o st a of is = by (own_reference t h o st.edges) refl
  where
    by : (q : Option Reference) → own_reference t h o st.edges ≡ q
        → finals_in (Some o) a ≡ step_finals (cut_step t h st o) st
    by None e =
        let same : cut_step t h st o ≡ steps.flowing st answers.Ok (cut_flow None) = ap (λ q. steps.flowing st answers.Ok (cut_flow q)) e in
        ap (finals_in (Some o)) (is ∙ ap (λ x. step_answer x st) same) ∙ sym (ap (λ x. step_finals x st) same)
    by (Some q) e =
        let same : cut_step t h st o ≡ steps.flowing st answers.Ok (cut_flow (Some q)) = ap (λ q. steps.flowing st answers.Ok (cut_flow q)) e in
        step-cut (cut_step t h st o) st o a (ap (λ x. cut_of x.flow) same ∙ ap Some (own_is t h o st.edges q of e).object) is

own-thread : (t : ℕ) → (t == t) ≡ true
own-thread t = eq-eqb t t refl

release-finals : (t : ℕ) (h : Holder) (o : Option ℕ) (st : State) (a : Answer) → IsOf t h
    → a ≡ step_answer (steps.release_step t h st o) st → finals_in o a ≡ step_finals (steps.release_step t h st o) st
release-finals t h None st a of is = step-none (steps.idle st answers.Skip) st a refl
release-finals t h (Some o) st a of is = own-step t h o st a of is

-- a statement keeps its variables' counts, or binds one
abbrev IsQuiet : Ownership → Type 0
IsQuiet Keeps = Unit {0}
IsQuiet (Binds v) = Unit {0}
IsQuiet (Retains v) = ⊥
IsQuiet (Releases v) = ⊥

quiet-cut : (s : Script) (t d : ℕ) (st : State) (y : Statement) (used : List (Option ℕ)) (own : Ownership) → IsQuiet own
    → cut_of (statement_step s t d st y used own).flow ≡ None
quiet-cut s t d st y used Keeps h = refl
quiet-cut s t d st y used (Binds v) h = refl
quiet-cut s t d st y used (Retains v) h = absurd h
quiet-cut s t d st y used (Releases v) h = absurd h

retain-cut : (h : Holder) (st : State) (o : Option ℕ) → cut_of (steps.retain_step h st o).flow ≡ None
retain-cut h st None = refl
retain-cut h st (Some o) = refl

statement-finals : (s : Script) (t d : ℕ) (st : State) (y : Statement) (used : Used) (a : Answer)
    → a ≡ step_answer (statement_step s t d st y (objects_of used) (ownership_of y)) st
    → finals_in (cut_by y used) a ≡ step_finals (statement_step s t d st y (objects_of used) (ownership_of y)) st
statement-finals s t d st (forms.Release v) used a is =
    release-finals t (variable t d v) (object_of used.first) st a (own-thread t) is
statement-finals s t d st (forms.Retain v) used a is =
    step-none (steps.retain_step (variable t d v) st (object_of used.first)) st a (retain-cut (variable t d v) st (object_of used.first))
statement-finals s t d st y used a is =
    step-none (statement_step s t d st y (objects_of used) (ownership_of y)) st a (quiet-cut s t d st y (objects_of used) (ownership_of y) tt)

claim-cut : (st : State) (h k : Holder) (o : Option ℕ) → cut_of (steps.claim_step st h o k).flow ≡ None
claim-cut st h k None = refl
claim-cut st h k (Some o) = refl

pack-cut : (t : ℕ) (st : State) (h k : Holder) (o : Option ℕ) → cut_of (steps.pack_step t st h o k).flow ≡ None
pack-cut t st h k None = refl
pack-cut t st h k (Some o) = refl

phase-cut : (t : ℕ) (st : State) (p : Phase) (k : Kind) → cut_of (steps.phase_step st t p k).flow ≡ None
phase-cut t st p k =
    phase_case (λ x. cut_of x.flow ≡ None) st t p k (record { woken = refl; due = refl; sleeps = λ date. refl; tests = λ r. refl; collects = λ list. refl })

close-cut : (st : State) (k : Kind) → cut_of (steps.close_step st k).flow ≡ None
close-cut st of_block = refl
close-cut st (of_handler c) = refl
close-cut st (of_run r) = refl

-- what an entry finalises is what its answer tells of what its step takes away
pub finals-are : (s : Script) (t : ℕ) (st : State) (fs : List Frame) (x : Step) (a : Answer) → IsLineStep s fs x
    → a ≡ step_answer (step_of s t st fs (demand_of x)) st
    → finals_in (step_cut x) a ≡ step_finals (step_of s t st fs (demand_of x)) st
finals-are s t st fs kinds.Begins a line is = step-none (steps.idle st answers.Ok) st a refl
finals-are s t st fs (kinds.Claims k v) a line is =
    step-none (step_of s t st fs (demand_of (kinds.Claims k v))) st a
    (claim-cut st (parcel t k) (variable t (steps.depth_of fs) v) (first_held (parcel t k) st.edges))
finals-are s t st fs (kinds.Says y used n) a line is =
    let objects : objects_of used ≡ used_objects (bindings_of fs) (says y.now)
    = line.1.objects ∙ sym (ap (λ bs. used_objects bs (says y.now)) (bindings-are fs)) in
    let step = λ (os : List (Option ℕ)). statement_step s t (steps.depth_of fs) st y.now os (ownership_of y.now) in
    statement-finals s t (steps.depth_of fs) st y.now used a (is ∙ sym (ap (λ os. step_answer (step os) st) objects))
    ∙ ap (λ os. step_finals (step os) st) objects
finals-are s t st fs (kinds.Packs u k v) a line is =
    step-none (step_of s t st fs (demand_of (kinds.Packs u k v))) st a
    (pack-cut t st (steps.packed_holder t (steps.depth_of fs) v) (parcel u k) (object_at (bindings_of fs) v))
finals-are s t st fs kinds.Ends a line is = step-none (steps.end_step t st) st a refl
finals-are s t st fs kinds.Returns a line is = step-none (step_of s t st fs (demand_of kinds.Returns)) st a refl
finals-are s t st fs (kinds.Owes o left) a line is = own-step t (owed t) o st a (own-thread t) is
finals-are s t st fs (kinds.Spends i left) a line is = step-none (step_of s t st fs (demand_of (kinds.Spends i left))) st a refl
finals-are s t st fs (kinds.Drops b k o left) a line is = step-cut (steps.drop_step st b o) st o a refl is
finals-are s t st fs (kinds.Calls k h info left) a line is = step-none (step_of s t st fs (demand_of (kinds.Calls k h info left))) st a refl
finals-are s t st fs (kinds.Enters p) a line is = step-none (steps.phase_step st t p (top_kind fs)) st a (phase-cut t st p (top_kind fs))
finals-are s t st fs kinds.Closes a line is = step-none (steps.close_step st (top_kind fs)) st a (close-cut st (top_kind fs))
