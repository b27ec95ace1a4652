-- Along every legal journal of every script: finalised at most once, never used later, and unfinalised exactly if a
-- reference is left.
use Rattle.std.proofs.Common.{◌≡◌, ℕ, zero, suc, ◌+◌, ◌<◌, ◌≤◌, ◌⊎◌, Bool, true, false, cond, List, [], ◌∷◌, ◌++◌, length, Option, Some, None, ltb, refl, sym, ap, ◌∙◌, subst, arith, inl, inr}
use Rattle.std.specs.Prelude.{slice_get, ◌==◌}
use Rattle.std.proofs.lemmas.Bool.{eq-eqb}
use Rattle.std.proofs.lemmas.Bool.Decides.{nat_tests}
use Rattle.cf_ids.specs.declared.answer.Answer.{Answer}
use Rattle.cf_ids.specs.declared.answer.Answer.TheVariants as answers
use Rattle.rl_turn.specs.declared.phases.Phase.{Phase}
use Rattle.rl_turn.specs.declared.phases.Phase.TheVariants as phases
use Rattle.cf_syntax.specs.declared.script.Script.{Script}
use Rattle.cf_syntax.specs.declared.statement.Statement.{Statement}
use Rattle.cf_syntax.specs.declared.statement.Statement.TheVariants as forms
use Rattle.cf_syntax.specs.declared.mention.Ownership.{Ownership}
use Rattle.cf_syntax.specs.declared.mention.Ownership.TheVariants.{Keeps, Binds, Retains, Releases}
use Rattle.cf_syntax.specs.Mentions.{ownership_of, first_of}
use Rattle.cf_syntax.specs.BlockLines.{BlockLine, begins, claims, says, packs}
use Rattle.cf_contents.specs.Contents.{Object, times}
use Rattle.cf_contents.proofs.SlotLaws.{times-append}
use Rattle.cf_graph.specs.Holders.{parcel, Holder, variable, owed}
use Rattle.cf_graph.specs.Edges.{Reference, weigh, counted, degree, owning, holding}
use Rattle.cf_graph.specs.Flows.{Move, Flow, grows, shrinks, flowed, gains}
use Rattle.cf_graph.specs.Flows as flows
use Rattle.cf_graph.proofs.Sides.{weigh-sides}
use Rattle.cf_next.specs.declared.action.Action.{Action}
use Rattle.cf_next.specs.declared.action.Action.TheVariants as actions
use Rattle.cf_next.specs.Actions.{Site, action_of, cut_of}
use Rattle.cf_next.specs.Stands.{Kind, of_run, of_handler, of_block, Frame}
use Rattle.cf_next.specs.Demands.{Demand, does, ends, returns, owes, spends, drops, calls, enters, closes}
use Rattle.cf_next.specs.Advance.{top_kind}
use Rattle.cf_next.specs.Next.{object_at, site_in, used_objects, top_frame, phase_action, action_in}
use Rattle.cf_model.proofs.Phases.{phase_case}
use Rattle.cf_model.specs.declared.entry.Entry.{Entry}
use Rattle.cf_model.specs.State.{first_held, Parts, State, start}
use Rattle.cf_model.specs.Known.{facts_of}
use Rattle.cf_model.specs.Own.{own_reference}
use Rattle.cf_model.specs.Steps.{close_step, phase_step, Step, idle, flowing, finals_of, type_in, cut_answer, cut_flow, release_step, retain_step, statement_step, step_of, frames_at, step_finals, step_answer, state_after, done_by, acted, demanded, bindings_of, depth_of, packed_holder, claim_step, pack_step}
use Rattle.cf_model.specs.Journals.{action_uses, uses_of, owners_of, after_action, state_from, After, IsLegalStep, IsLegalAs, IsLegalEntry, IsLegalFrom, IsLegal}
use Rattle.cf_model.specs.Flowing.{flow_in}
use Rattle.cf_model.specs.Finals.{final_if, final_of, one_at, finals, uses_among, uses, FinalsFit}
use Rattle.cf_model.proofs.Entries.{IsStep, ActionView, is_tick, is_stall, is_step, action_view}
use Rattle.cf_model.proofs.OwnLaws.{IsOf, own_is}
use Rattle.cf_model.proofs.Steady.{IsSteady, step_steady, ticked_steady, start_steady}
use Rattle.cf_model.proofs.Acting.{Done, legal_done, site_used}
use Rattle.cf_model.proofs.Unfinalised.{uses_none, BindsUnfinalised, bound_none, cut_unfinalised, demand_unfinalised}

-- ---- each entry keeps what holds

acted_is : (s : Script) (t : ℕ) (st : State) (d : Demand) (e : Option Demand) → e ≡ Some d
    → acted s t st e ≡ done_by s t st d
acted_is s t st d e q = ap (acted s t st) q

pub step_after : (s : Script) (st : State) (e : Entry) → IsStep e.action → (done : Done s st e)
    → after_action s e.thread st e.action ≡ done_by s e.thread st done.acts.demand
step_after s st e step done = step.after s e.thread st ∙ acted_is s e.thread st done.acts.demand (demanded s st e.thread) done.acts.demands

-- how many finals a step of the state has, and how many its entry tells
final_none : (o : ℕ) (answer : Answer) (c : Option ℕ) → c ≡ None → one_at o (final_if answer c) ≡ 0
final_none o (answers.Final t) c e = ap (one_at o) e
final_none o _ c e = refl

cut_finals : (o p : ℕ) (objects : List Object) (left : List Reference) (other : Answer)
    → one_at o (final_if (cut_answer (Some p) objects left other) (Some p)) ≡ times o (finals_of (Some p) left)
cut_finals o p objects left other = by (degree p left == 0)
  where
    by : (b : Bool)
        → one_at o (final_if (cond b (answers.Final (type_in (slice_get objects p))) answers.More) (Some p)) ≡ times o (cond b (p ∷ []) [])
    by true = omega arith
    by false = refl

-- what an action takes away is what the step does, by the kind of statement
abbrev pub CutBy : Ownership → Option ℕ → List (Option ℕ) → Type 0
CutBy (Releases v) c used = c ≡ first_of used
CutBy _ c used = c ≡ None

statement_cut : (x : Statement) (site : Site) → CutBy (ownership_of x) (cut_of (action_of x site)) site.used
statement_cut (forms.Release v) site = refl
statement_cut x site = refl

-- a step tells its finals where its flow takes away what its action says, or nothing
pub record Tells (st : State) (step : Step) (c : Option ℕ) : Type 0 where
  pub finals : (o : ℕ) → one_at o (final_if (step_answer step st) c) ≡ times o (step_finals step st)

grows_tell : (st : State) (answer : Answer) (ins : List Reference) (ms : List Move) (parts : Parts) (list : List ℕ)
    (stops : Option ℕ) (c : Option ℕ)
    → c ≡ None
    → Tells st (record { answer = answer; flow = grows ins ms; parts = parts; list = list; stops = stops }) c
grows_tell st answer ins ms parts list stops c e = record { finals = λ o. final_none o answer c e }

ok_tells : (st : State) (c : Option ℕ) → Tells st (idle st answers.Ok) c
ok_tells st c = record { finals = λ o. refl }

cut_tells : (t : ℕ) (h : Holder) (st : State) (p : ℕ) (q : Option Reference) → IsOf t h
    → own_reference t h p st.edges ≡ q → Tells st (flowing st answers.Ok (cut_flow q)) (Some p)
cut_tells t h st p None of e = ok_tells st (Some p)
cut_tells t h st p (Some r) of e =
    let same : r.object ≡ p = (own_is t h p st.edges r of e).object in
    record { finals = λ o. subst (λ (m : ℕ). one_at o (final_if (step_answer (flowing st answers.Ok (shrinks r)) st) (Some m)) ≡ times o (step_finals (flowing st answers.Ok (shrinks r)) st)) same (cut_finals o r.object st.parts.objects (flowed (shrinks r) st.edges) answers.Ok) }

release_tells : (t : ℕ) (h : Holder) (st : State) (object : Option ℕ) → IsOf t h
    → Tells st (release_step t h st object) object
release_tells t h st None of = record { finals = λ o. refl }
release_tells t h st (Some p) of = cut_tells t h st p (own_reference t h p st.edges) of refl

retain_tells : (h : Holder) (st : State) (object c : Option ℕ) → c ≡ None → Tells st (retain_step h st object) c
retain_tells h st None c e = record { finals = λ o. refl }
retain_tells h st (Some p) c e = record { finals = λ o. refl }

statement_tells : (s : Script) (t d : ℕ) (st : State) (x : Statement) (used : List (Option ℕ)) (ownership : Ownership)
    (c : Option ℕ)
    → CutBy ownership c used → Tells st (statement_step s t d st x used ownership) c
statement_tells s t d st x used Keeps c e = grows_tell st _ _ _ _ _ _ c e
statement_tells s t d st x used (Binds v) c e = grows_tell st _ _ _ _ _ _ c e
statement_tells s t d st x used (Retains v) c e = retain_tells (variable t d v) st (first_of used) c e
statement_tells s t d st x used (Releases v) c e = subst (Tells st (release_step t (variable t d v) st (first_of used))) (sym e) (release_tells t (variable t d v) st (first_of used) (eq-eqb t t refl))

pass_tells : (t : ℕ) (st : State) (h : Holder) (object : Option ℕ) (k : Holder)
    → Tells st (pack_step t st h object k) None
pass_tells t st h None k = record { finals = λ o. refl }
pass_tells t st h (Some p) k = record { finals = λ o. refl }

claim_tells : (st : State) (h : Holder) (object : Option ℕ) (k : Holder) → Tells st (claim_step st h object k) None
claim_tells st h None k = record { finals = λ o. refl }
claim_tells st h (Some p) k = record { finals = λ o. refl }

line_tells : (s : Script) (t : ℕ) (st : State) (fs : List Frame) (x : BlockLine)
    → Tells st (step_of s t st fs (does x)) (cut_of (action_in s (facts_of st) t fs (does x)))
line_tells s t st fs (begins v) = record { finals = λ o. refl }
line_tells s t st fs (claims k v) = claim_tells st (parcel t k) (first_held (parcel t k) st.edges) (variable t (depth_of fs) v)
line_tells s t st fs (packs u k v) = pass_tells t st (packed_holder t (depth_of fs) v) (object_at (bindings_of fs) v) (parcel u k)
line_tells s t st fs (says x) =
    let site = site_in s (top_frame fs) (says x) in
    let used = used_objects (bindings_of fs) (says x) in
    statement_tells s t (depth_of fs) st x used (ownership_of x) (cut_of (action_of x site)) (subst (CutBy (ownership_of x) (cut_of (action_of x site))) (site_used s fs (says x)) (statement_cut x site))

phase_cut : (p : Phase) → cut_of (phase_action p) ≡ None
phase_cut (phases.Note a) = refl
phase_cut phases.Sources = refl
phase_cut phases.Timers = refl
phase_cut phases.Sleep = refl
phase_cut phases.Test = refl
phase_cut phases.Ran = refl

-- where nothing is taken away nothing is final
abbrev IsNoCut : Flow → Type 0
IsNoCut (grows ins ms) = Unit {0}
IsNoCut (shrinks r) = ⊥

no_cut_tells : (st : State) (step : Step) (c : Option ℕ) → IsNoCut step.flow → c ≡ None → Tells st step c
no_cut_tells st step c open_flow e = record { finals = λ o. by step.flow open_flow o }
  where
    by : (f : Flow) → IsNoCut f → (o : ℕ)
        → one_at o (final_if (cut_answer (flows.cut_of f) st.parts.objects (flowed f st.edges) step.answer) c) ≡ times o (finals_of (flows.cut_of f) (flowed f st.edges))
    by (grows ins ms) open_flow o = final_none o step.answer c e
    by (shrinks r) open_flow o = absurd open_flow

open_phase : (st : State) (t : ℕ) (p : Phase) (k : Kind) → IsNoCut (phase_step st t p k).flow
open_phase st t p k = phase_case (λ (s : Step). IsNoCut s.flow) st t p k (record { woken = tt; due = tt; sleeps = λ d. tt; tests = λ r. tt; collects = λ l. tt })

open_close : (st : State) (k : Kind) → IsNoCut (close_step st k).flow
open_close st of_block = tt
open_close st (of_handler k) = tt
open_close st (of_run r) = tt

pub demand_tells : (s : Script) (t : ℕ) (st : State) (fs : List Frame) (d : Demand)
    → Tells st (step_of s t st fs d) (cut_of (action_in s (facts_of st) t fs d))
demand_tells s t st fs (does x) = line_tells s t st fs x
demand_tells s t st fs ends = record { finals = λ o. refl }
demand_tells s t st fs returns = record { finals = λ o. refl }
demand_tells s t st fs (owes p) = cut_tells t (owed t) st p (own_reference t (owed t) p st.edges) (eq-eqb t t refl) refl
demand_tells s t st fs (spends i) = grows_tell st _ _ _ _ _ _ None refl
demand_tells s t st fs (drops b k p) = record { finals = λ o. cut_finals o p st.parts.objects (flowed (step_of s t st fs (drops b k p)).flow st.edges) answers.Ok }
demand_tells s t st fs (calls k c) = grows_tell st _ _ _ _ _ _ None refl
demand_tells s t st fs (enters p) = no_cut_tells st (phase_step st t p (top_kind fs)) (cut_of (phase_action p)) (open_phase st t p (top_kind fs)) (phase_cut p)
demand_tells s t st fs closes = no_cut_tells st (close_step st (top_kind fs)) None (open_close st (top_kind fs)) refl

finalised_after : (s : Script) (t : ℕ) (st : State) (d : Demand) (step : Step) (o : ℕ)
    → step.parts.finalised ≡ st.parts.finalised
    → times o (state_after t d step st).parts.finalised ≡ times o (step_finals step st) + times o st.parts.finalised
finalised_after s t st d step o same = times-append o (step_finals step st) step.parts.finalised ∙ ap (λ fs. times o (step_finals step st) + times o fs) same

pub record EntryKeeps (s : Script) (st : State) (e : Entry) : Type 0 where
  pub steady : IsSteady (after_action s e.thread st e.action)
  pub finals : (o : ℕ)
      → times o (after_action s e.thread st e.action).parts.finalised ≡ one_at o (final_of e) + times o st.parts.finalised

step_keeps : (s : Script) (st : State) (e : Entry) → IsSteady st → IsStep e.action → (done : Done s st e)
    → EntryKeeps s st e
step_keeps s st e h is done =
    let t = e.thread in
    let d = done.acts.demand in
    let step = step_of s t st (frames_at t st) d in
    let after : after_action s t st e.action ≡ done_by s t st d = step_after s st e is done in
    let tells = (demand_tells s t st (frames_at t st) d).finals in
    let same : (o : ℕ) → one_at o (final_of e) ≡ times o (step_finals step st) = λ o. ap (λ (p : Action × Answer). one_at o (final_if p.1 (cut_of p.0))) (λ i. (sym done.acts.action i, done.answer i)) ∙ tells o in
    record {
      steady = subst IsSteady (sym after) (step_steady t d st step h done.fits);
      finals = λ o. subst (λ (x : State). times o x.parts.finalised ≡ one_at o (final_of e) + times o st.parts.finalised) (sym after) (omega (arith, finalised_after s t st d step o done.fits.finalised, same o));
    }

entry_keeps : (s : Script) (st : State) (t : ℕ) (a : Action) (x : Answer) → IsSteady st → ActionView a
    → IsLegalAs s st (record { thread = t; action = a; answer = x }) a
    → EntryKeeps s st (record { thread = t; action = a; answer = x })
entry_keeps s st t _ x h (is_tick n) legal = record { steady = ticked_steady n st h; finals = λ o. omega (arith, final_none o x None refl) }
entry_keeps s st t _ x h is_stall legal = record { steady = h; finals = λ o. omega (arith, final_none o x None refl) }
entry_keeps s st t a x h (is_step _ step) legal =
    let e : Entry = record { thread = t; action = a; answer = x } in
    step_keeps s st e h step (legal_done s st e h (step.legal s st e legal))

pub legal_keeps : (s : Script) (st : State) (e : Entry) → IsSteady st → IsLegalEntry s st e → EntryKeeps s st e
legal_keeps s st e h legal = entry_keeps s st e.thread e.action e.answer h (action_view e.action) legal

-- ---- along a journal

-- each entry is legal after those before it
abbrev pub IsLegalPart : Script → State → List Entry → Type 0
IsLegalPart s st [] = Unit {0}
IsLegalPart s st (e ∷ es) = IsLegalEntry s st e × IsLegalPart s (after_action s e.thread st e.action) es

pub part_of_legal : (s : Script) (st : State) (es : List Entry) → IsLegalFrom s st es → IsLegalPart s st es
part_of_legal s st [] h = tt
part_of_legal s st (e ∷ es) h = (h.0, part_of_legal s (after_action s e.thread st e.action) es h.2)

pub record Kept (s : Script) (st : State) (es : List Entry) : Type 0 where
  pub steady : IsSteady (state_from s st es)
  pub finals : (o : ℕ) → times o (state_from s st es).parts.finalised ≡ finals o es + times o st.parts.finalised

pub kept_part : (s : Script) (st : State) (es : List Entry) → IsSteady st → IsLegalPart s st es → Kept s st es
kept_part s st [] h legal = record { steady = h; finals = λ o. omega arith }
kept_part s st (e ∷ es) h legal =
    let one = legal_keeps s st e h legal.0 in
    let rest = kept_part s (after_action s e.thread st e.action) es one.steady legal.1 in
    record { steady = rest.steady; finals = λ o. omega (arith, rest.finals o, one.finals o) }

pub kept : (s : Script) (es : List Entry) → IsLegal s es → Kept s (start s) es
kept s es legal = kept_part s (start s) es (start_steady s) (part_of_legal s (start s) es legal)

finals_after : (s : Script) (o : ℕ) (es : List Entry) → IsLegal s es
    → finals o es ≡ times o (After s es).parts.finalised
finals_after s o es legal = let k = (kept s es legal).finals o in omega (arith, k)

-- ---- the law

step_uses : (s : Script) (st : State) (e : Entry) (o : ℕ) → IsSteady st → 0 < times o st.parts.finalised
    → IsLegalStep s st e → uses o e ≡ 0
step_uses s st e o h some legal =
    let done = legal_done s st e h legal in
    let step = step_of s e.thread st (frames_at e.thread st) done.acts.demand in
    let binds = subst (BindsUnfinalised st) (sym done.answer) (cut_unfinalised st (flows.cut_of step.flow) st.parts.objects (flowed step.flow st.edges) step.answer (demand_unfinalised s e.thread st (frames_at e.thread st) done.acts.demand h.balance)) in
    omega (arith, bound_none st o e.answer some binds, uses_none st e.thread (owners_of e.action) o (uses_of e.action e.answer) some legal.uses)

lead_uses : (o t : ℕ) (a : Action) (x : Answer) → x ≡ answers.Ok → action_uses a ≡ []
    → uses o (record { thread = t; action = a; answer = x }) ≡ 0
lead_uses o t a x e none = rw e (let n : uses_among o (action_uses a) ≡ 0 = ap (uses_among o) none in omega (arith, n))

entry_uses : (s : Script) (st : State) (t : ℕ) (a : Action) (x : Answer) (o : ℕ) → IsSteady st
    → 0 < times o st.parts.finalised → ActionView a → IsLegalAs s st (record { thread = t; action = a; answer = x }) a
    → uses o (record { thread = t; action = a; answer = x }) ≡ 0
entry_uses s st t _ x o h some (is_tick n) legal = lead_uses o t (actions.Tick n) x legal.1 refl
entry_uses s st t _ x o h some is_stall legal = lead_uses o t actions.Stall x legal.1 refl
entry_uses s st t a x o h some (is_step _ step) legal =
    step_uses s st (record { thread = t; action = a; answer = x }) o h some (step.legal s st (record { thread = t; action = a; answer = x }) legal)

-- a legal journal in two parts: the first is legal, and so is the entry after it
legal_front : (s : Script) (st : State) (es : List Entry) (e : Entry) (fs : List Entry)
    → IsLegalFrom s st (es ++ e ∷ fs) → IsLegalPart s st es × IsLegalEntry s (state_from s st es) e
legal_front s st [] e fs h = (tt, h.0)
legal_front s st (f ∷ es) e fs h = let r = legal_front s (after_action s f.thread st f.action) es e fs h.2 in ((h.0, r.0), r.1)

left_cases : (m a b : ℕ) → m + counted (ltb 0 (a + b)) ≡ 1 → m ≡ 0 → (0 < a) ⊎ (0 < b)
left_cases m zero b h e = inr (grind (arith, nat_tests))
left_cases m (suc a) b h e = inl (omega arith)

none_left : (m n : ℕ) → m + counted (ltb 0 n) ≡ 1 → 0 < n → m ≡ 0
none_left m n h p = grind (arith, nat_tests)

most_one : (m : ℕ) (made n : Bool) → m + counted n ≡ counted made → m ≤ 1
most_one m true true h = omega arith
most_one m true false h = omega arith
most_one m false true h = omega arith
most_one m false false h = omega arith

-- to what was finalised no later entry adds a reference
abbrev pub NeverGained : Script → List Entry → Type 0
NeverGained s es =
    (earlier later : List Entry) (e : Entry) (o : ℕ) → es ≡ earlier ++ e ∷ later → 0 < finals o earlier
    → gains o (flow_in s e.thread (After s earlier) e.action) ≡ 0

pub finals_fit : (s : Script) (es : List Entry) → IsLegal s es → NeverGained s es → FinalsFit s es
finals_fit s es h never =
    let st = After s es in
    let balance = (kept s es h).steady.balance in
    record {
      once = λ o. rw (finals_after s o es h) (most_one (times o st.parts.finalised) (ltb o (length st.parts.objects)) (ltb 0 (degree o st.edges)) (balance o));
      unused = λ earlier later e o parts some.
          let front = legal_front s (start s) earlier e later (subst (IsLegal s) parts h) in
          let part = kept_part s (start s) earlier (start_steady s) front.0 in
          let final : 0 < times o (After s earlier).parts.finalised = omega (arith, some, part.finals o) in
          entry_uses s (After s earlier) e.thread e.action e.answer o part.steady final (action_view e.action) front.1;
      ungained = never;
      left = λ o made.
          let sides = weigh-sides o st.edges in
          let one : times o st.parts.finalised + counted (ltb 0 (weigh (owning o) st.edges + weigh (holding o) st.edges)) ≡ 1 = rw (sides, balance o) (ap counted made) in
          rw (finals_after s o es h) (
            λ none. left_cases (times o st.parts.finalised) (weigh (owning o) st.edges) (weigh (holding o) st.edges) one none,
            λ some. none_left (times o st.parts.finalised) (weigh (owning o) st.edges + weigh (holding o) st.edges) one (elim some [ inl p ↦ omega (arith, p) | inr p ↦ omega (arith, p) ]),
          );
    }
