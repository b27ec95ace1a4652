-- A legal entry of a thread does what the thread demands, and its step fits.
use Rattle.std.proofs.Common.{◌≡◌, ℕ, Bool, true, false, cond, List, [], ◌∷◌, length, Option, Some, None, refl, sym, ap, ◌∙◌, subst}
use Rattle.std.proofs.lemmas.Bool.{eq-eqb}
use Rattle.cf_ids.specs.declared.answer.Answer.{Answer}
use Rattle.cf_ids.specs.declared.answer.Answer.TheVariants as answers
use Rattle.cf_syntax.specs.declared.script.Script.{Script}
use Rattle.cf_syntax.specs.declared.statement.Statement.{Statement}
use Rattle.cf_syntax.specs.declared.mention.Ownership.{Ownership}
use Rattle.cf_syntax.specs.declared.mention.Ownership.TheVariants.{Keeps, Binds, Retains, Releases}
use Rattle.cf_syntax.specs.Mentions.{ownership_of, first_of}
use Rattle.cf_syntax.specs.BlockLines.{BlockLine, begins, claims, says, packs}
use Rattle.cf_graph.specs.declared.edge.Owner.{Owner}
use Rattle.cf_graph.specs.Holders.{variable, owed}
use Rattle.cf_next.specs.declared.action.Action.{Action}
use Rattle.cf_next.specs.declared.action.Action.TheVariants as actions
use Rattle.cf_next.specs.Actions.{Site, action_of}
use Rattle.cf_next.specs.Facts.{Callout}
use Rattle.cf_next.specs.Stands.{Role, as_observer, as_source, as_timer, as_receiver, Callee, item_of, Kind, Frame}
use Rattle.cf_next.specs.Demands.{Demand, does, ends, returns, owes, spends, drops, calls, enters, closes}
use Rattle.cf_next.specs.Advance.{kind_item, top_info, top_kind}
use Rattle.cf_next.specs.Next.{site_in, used_objects, top_frame, action_in, action_if}
use Rattle.cf_model.specs.declared.entry.Entry.{Entry}
use Rattle.cf_model.specs.State.{State, stand_at}
use Rattle.cf_model.specs.Known.{facts_of}
use Rattle.cf_model.specs.Steps.{Made, item_made, step_answer, retain_step, statement_step, step_of, frames_at, demanded, answer_if, bindings_of, depth_of, call_step, activity, call_answer}
use Rattle.cf_model.specs.Deals.{deal_of}
use Rattle.cf_model.specs.Journals.{reaches, knows, action_uses, uses_of, owners_of, MayUseAll, can_go, Next, IsLegalStep}
use Rattle.cf_model.proofs.Balance.{IsLive}
use Rattle.cf_model.proofs.Legal.{reached_live, known_live, if_live, LiveBy, statement_live, not_skipped}
use Rattle.cf_model.proofs.Fitting.{StepFits, idle_fits, claim_fits, pack_fits, return_fits, cut_fits}
use Rattle.cf_model.proofs.Steady.{IsSteady}
use Rattle.cf_model.proofs.Dropping.{drop_fits, demand_slot}
use Rattle.cf_model.proofs.LegalSteps.{LiveFor, statement_fits, packed_is_own, end_fits, spend_fits, call_fits, phase_fits, close_fits}

-- ---- what a thread demands, and the action of it

pub record Acts (s : Script) (st : State) (t : ℕ) (a : Action) : Type 0 where
  pub demand : Demand
  pub demands : demanded s st t ≡ Some demand
  pub action : action_in s (facts_of st) t (frames_at t st) demand ≡ a

pub next_is : (s : Script) (st : State) (t : ℕ) (a : Action) → Next s st t ≡ Some a → Acts s st t a
next_is s st t a e = by (can_go st t) e
  where
    some_is : (b : Action) → ◌≡◌ {A = Option Action} (Some b) (Some a) → b ≡ a
    some_is b e = cc

    demand_is : (d : Option Demand) → demanded s st t ≡ d → action_if s (facts_of st) t (frames_at t st) d ≡ Some a
        → Acts s st t a
    demand_is None q e = absurd cc
    demand_is (Some d) q e = record { demand = d; demands = q; action = some_is (action_in s (facts_of st) t (frames_at t st) d) e }

    by : (b : Bool) → cond b (action_if s (facts_of st) t (frames_at t st) (demanded s st t)) None ≡ Some a
        → Acts s st t a
    by true e = demand_is (demanded s st t) refl e
    by false e = absurd cc

-- ---- what is used is live where the step needs it

no_skip_object : (o : ℕ) → answers.Object o ≡ answers.Skip → ⊥
no_skip_object o e = cc

-- the objects of a statement's action are those of its step
pub site_used : (s : Script) (fs : List Frame) (x : BlockLine)
    → (site_in s (top_frame fs) x).used ≡ used_objects (bindings_of fs) x
site_used s [] x = refl
site_used s (f ∷ fs) x = refl

module _ (s : Script) (t d : ℕ) (st : State) (x : Statement) (used : List (Option ℕ)) (owners : List Owner) (site : Site) (same : site.used ≡ used) where
  pub uses_live : (answer : Answer) → (answer ≡ answers.Skip → ⊥)
      → MayUseAll st t owners (uses_of (action_of x site) answer) → LiveBy st (ownership_of x) used
  uses_live answer unskipped h =
      subst (LiveBy st (ownership_of x)) same (statement_live st t owners x site (subst (MayUseAll st t owners) (not_skipped (action_of x site) answer unskipped) h))

  live_for : (ownership : Ownership)
      → ((answer : Answer) → (answer ≡ answers.Skip → ⊥) → MayUseAll st t owners (uses_of (action_of x site) answer) → LiveBy st ownership used)
      → MayUseAll st t owners (uses_of (action_of x site) (step_answer (statement_step s t d st x used ownership) st)) → LiveFor st s t x used ownership
  live_for Keeps live h = λ unskipped. live (deal_of s t st x used).answer unskipped h
  live_for (Binds v) live h = λ m e o first. live (step_answer (statement_step s t d st x used (Binds v)) st) (made_answers m e) h 0 o first
    where
      made_answers : (m : Made) → item_made x ≡ Some m
          → step_answer (statement_step s t d st x used (Binds v)) st ≡ answers.Skip → ⊥
      made_answers m e = rw e (λ q. no_skip_object _ q)
  live_for (Retains v) live h = λ o first. by (first_of used) o first refl h
    where
      by : (object : Option ℕ) (o : ℕ) → object ≡ Some o → first_of used ≡ object
          → MayUseAll st t owners (uses_of (action_of x site) (step_answer (retain_step (variable t d v) st object) st)) → IsLive st o
      by None o e q h = absurd cc
      by (Some p) o e q h = live answers.Ok (λ z. absurd cc) h 0 o (q ∙ e)
  live_for (Releases v) live h = tt

  pub statement_step_fits : IsSteady st
      → MayUseAll st t owners (uses_of (action_of x site) (step_answer (statement_step s t d st x used (ownership_of x)) st))
      → StepFits t st (statement_step s t d st x used (ownership_of x))
  statement_step_fits h uses = statement_fits s t d st x used (ownership_of x) h (live_for (ownership_of x) uses_live uses)

-- ---- calls

call_never_skips : (role : Role) (a : ℕ) → call_answer role a ≡ answers.Skip → ⊥
call_never_skips as_observer a e = cc
call_never_skips as_source a e = cc
call_never_skips as_timer a e = cc
call_never_skips as_receiver a e = cc

call_uses_live : (st : State) (t : ℕ) (owners : List Owner) (h : ℕ) (item info : Option ℕ)
    → MayUseAll st t owners (action_uses (actions.Call h item info))
    → ((o : ℕ) → info ≡ Some o → IsLive st o) × ((o : ℕ) → item ≡ Some o → IsLive st o)
call_uses_live st t owners h None info uses = (if_live st t owners knows (known_live st t owners) info uses, λ o e. absurd cc)
call_uses_live st t owners h (Some i) info uses =
    (if_live st t owners reaches (reached_live st t owners) info uses.1, λ o e. let same : i ≡ o = cc in subst (IsLive st) same (reached_live st t owners i uses.0))

called_fits : (t d : ℕ) (st : State) (kind : Kind) (k : Callee) (c : Callout) (owners : List Owner)
    → MayUseAll st t owners (uses_of (actions.Call c.handler (item_of k) c.info) (call_answer k.role (activity kind)))
    → StepFits t st (call_step t d st kind k c)
called_fits t d st kind k c owners h =
    let uses = subst (MayUseAll st t owners) (not_skipped (actions.Call c.handler (item_of k) c.info) (call_answer k.role (activity kind)) (call_never_skips k.role (activity kind))) h in
    let live = call_uses_live st t owners c.handler (item_of k) c.info uses in
    call_fits t d st kind k c live.0 live.1

-- ---- the step of each demand

line_fits : (s : Script) (t : ℕ) (st : State) (fs : List Frame) (x : BlockLine) → IsSteady st
    → MayUseAll st t (owners_of (action_in s (facts_of st) t fs (does x))) (uses_of (action_in s (facts_of st) t fs (does x)) (step_answer (step_of s t st fs (does x)) st))
    → StepFits t st (step_of s t st fs (does x))
line_fits s t st fs (begins v) h uses = idle_fits t st _
line_fits s t st fs (claims k v) h uses = claim_fits t (depth_of fs) v k st _ refl
line_fits s t st fs (packs u k v) h uses = pack_fits t st _ _ u k (packed_is_own t (depth_of fs) v)
line_fits s t st fs (says x) h uses =
    statement_step_fits s t (depth_of fs) st x (used_objects (bindings_of fs) (says x)) _ (site_in s (top_frame fs) (says x)) (site_used s fs (says x)) h uses

pub demand_fits : (s : Script) (t : ℕ) (st : State) (d : Demand) → IsSteady st → demanded s st t ≡ Some d
    → MayUseAll st t (owners_of (action_in s (facts_of st) t (frames_at t st) d)) (uses_of (action_in s (facts_of st) t (frames_at t st) d) (step_answer (step_of s t st (frames_at t st) d) st))
    → StepFits t st (step_of s t st (frames_at t st) d)
demand_fits s t st (does x) h e uses = line_fits s t st (frames_at t st) x h uses
demand_fits s t st ends h e uses = end_fits t st
demand_fits s t st returns h e uses = return_fits t (depth_of (frames_at t st)) st (top_info (frames_at t st)) (kind_item (top_kind (frames_at t st)))
demand_fits s t st (owes o) h e uses = cut_fits t (owed t) st o (eq-eqb t t refl)
demand_fits s t st (spends i) h e uses = spend_fits s t st i
demand_fits s t st (drops b k o) h e uses = drop_fits b k o st (demand_slot s (facts_of st) t (stand_at t st.stands) b k o e) t h.slotted
demand_fits s t st (calls k c) h e uses = called_fits t (length (frames_at t st)) st (top_kind (frames_at t st)) k c (owners_of (action_in s (facts_of st) t (frames_at t st) (calls k c))) uses
demand_fits s t st (enters p) h e uses = phase_fits t st p (top_kind (frames_at t st))
demand_fits s t st closes h e uses = close_fits t st (top_kind (frames_at t st))

-- a legal entry of a thread
pub record Done (s : Script) (st : State) (e : Entry) : Type 0 where
  pub acts : Acts s st e.thread e.action
  pub fits : StepFits e.thread st (step_of s e.thread st (frames_at e.thread st) acts.demand)
  pub answer : e.answer ≡ step_answer (step_of s e.thread st (frames_at e.thread st) acts.demand) st

pub legal_done : (s : Script) (st : State) (e : Entry) → IsSteady st → IsLegalStep s st e → Done s st e
legal_done s st e h legal =
    let acts = next_is s st e.thread e.action legal.next in
    let answer : e.answer ≡ step_answer (step_of s e.thread st (frames_at e.thread st) acts.demand) st = legal.answer ∙ ap (answer_if s e.thread st) acts.demands in
    let uses = subst (λ (p : Action × Answer). MayUseAll st e.thread (owners_of p.0) (uses_of p.0 p.1)) (λ i. (sym acts.action i, answer i)) legal.uses in
    record { acts = acts; fits = demand_fits s e.thread st acts.demand h acts.demands uses; answer = answer }
