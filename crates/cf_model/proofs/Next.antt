-- What comes first of a thread's next retains is its next action.
use Rattle.std.proofs.Common.{◌≡◌, ℕ, ◌-◌, Bool, true, false, cond, List, [], ◌∷◌, Option, Some, None, refl, sym, ap, ◌∙◌, subst, inl, inr}
use Rattle.std.specs.Prelude.{◌&&◌, not}
use Rattle.std.proofs.lemmas.Bool.Decides.{eqb_tells}
use Rattle.cf_syntax.specs.declared.script.Script.{Script}
use Rattle.cf_syntax.specs.declared.statement.Statement.TheVariants.{Retain}
use Rattle.cf_syntax.specs.Mentions.{first_of}
use Rattle.cf_syntax.specs.BlockLines.{BlockLine, says}
use Rattle.cf_graph.specs.Holders.{Holder}
use Rattle.cf_next.specs.Stands.{Stand, stop_stand}
use Rattle.cf_next.specs.Demands.{Demand, does}
use Rattle.cf_next.specs.Next.{used_objects, lines_before, block_of, action_if}
use Rattle.cf_next.specs.Ahead.{ahead}
use Rattle.cf_model.specs.State.{Flags, State, blank, stand_at, with_stand, flags_at}
use Rattle.cf_model.specs.Known.{facts_of}
use Rattle.cf_model.specs.Steps.{retain_step, stopped_at, stand_after, step_of, frames_at, demanded, done_by, bindings_of}
use Rattle.cf_model.specs.Journals.{is_asleep, can_go}
use Rattle.cf_model.specs.Coming.{next_retains, ComesFirst}
use Rattle.cf_model.proofs.Tokens.{at_own, at_other}
use Rattle.cf_model.proofs.Coming.{First, first_comes, first_demanded, rest_comes}

abbrev due : Script → State → ℕ → List ℕ
due s st t = ahead s (facts_of st) t (stand_at t st.stands)

gate_first : (b : Bool) (xs : List ℕ) (o : ℕ) (os : List ℕ) → cond b xs [] ≡ o ∷ os → (b ≡ true) × (xs ≡ o ∷ os)
gate_first true xs o os e = (refl, e)
gate_first false xs o os e = absurd cc

retain_parts : (k : Holder) (st : State) (o : Option ℕ) → (retain_step k st o).parts.flags ≡ st.parts.flags
retain_parts k st None = refl
retain_parts k st (Some o) = refl

-- a stop leaves whether a thread is done
pub done_stays : (t : ℕ) (stops : Option ℕ) (ss : List Stand)
    → (stand_at t (stopped_at stops ss)).is_done ≡ (stand_at t ss).is_done
done_stays t None ss = refl
done_stays t (Some u) ss = elim (eqb_tells t u) [
  | inl e ↦ subst (λ (n : ℕ). (stand_at n (stopped_at (Some u) ss)).is_done ≡ (stand_at n ss).is_done) (sym e.1) (ap (λ (s : Stand). s.is_done) (at_own blank u (stop_stand (stand_at u ss)) ss))
  | inr e ↦ ap (λ (s : Stand). s.is_done) (at_other blank t u (stop_stand (stand_at u ss)) ss e.1)
]

can_rest : (s : Script) (st : State) (t o : ℕ) (os : List ℕ) (h : First s (facts_of st) t (stand_at t st.stands) o os)
    → can_go st t ≡ true → can_go (done_by s t st (does (says (Retain h.var)))) t ≡ true
can_rest s st t o os h go =
    let d : Demand = does (says (Retain h.var)) in
    let step = step_of s t st (frames_at t st) d in
    let flags : step.parts.flags ≡ st.parts.flags = retain_parts _ st (first_of (used_objects (bindings_of (frames_at t st)) (says (Retain h.var)))) in
    let done : (stand_at t (done_by s t st d).stands).is_done ≡ (stand_at t st.stands).is_done =
    done_stays t step.stops (with_stand t (stand_after t d step st) st.stands) ∙ ap (λ (s : Stand). s.is_done) (at_own blank t (stand_after t d step st) st.stands) ∙ sym h.going in
    ap (λ (p : List Flags × Bool). ((flags_at t p.0).is_started && not p.1) && not (is_asleep (flags_at t p.0).sleep)) (λ i. (flags i, done i)) ∙ go

rest_after : (s : Script) (st : State) (t o : ℕ) (os : List ℕ) (h : First s (facts_of st) t (stand_at t st.stands) o os)
    → can_go st t ≡ true → next_retains s (done_by s t st (does (says (Retain h.var)))) t ≡ os
rest_after s st t o os h go =
    let d : Demand = does (says (Retain h.var)) in
    let new = done_by s t st d in
    ap (λ (b : Bool). cond b (due s new t) []) (can_rest s st t o os h go) ∙ rest_comes s t st o os h

pub comes_first : (s : Script) (st : State) (t o : ℕ) (os : List ℕ) → next_retains s st t ≡ o ∷ os
    → ComesFirst s st t o os
comes_first s st t o os e =
    let g = gate_first (can_go st t) (due s st t) o os e in
    let h = first_comes s (facts_of st) t (stand_at t st.stands) o os g.1 in
    let demands = first_demanded s (facts_of st) t (stand_at t st.stands) o os h in
    let x : BlockLine = says (Retain h.var) in
    record {
      var = h.var;
      demands = demands;
      block = block_of s h.top.kind h.top.block;
      number = h.top.number - lines_before s h.top.kind h.top.block;
      used = used_objects h.top.bindings x;
      next = ap (λ (b : Bool). cond b (action_if s (facts_of st) t (frames_at t st) (demanded s st t)) None) g.0 ∙ ap (action_if s (facts_of st) t (frames_at t st)) demands ∙ ap (λ fs. action_if s (facts_of st) t fs (Some (does x))) h.frames;
      object = h.bound;
      rest = rest_after s st t o os h g.0;
    }
