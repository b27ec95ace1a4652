-- A step of one thread keeps what all holders hold, where it keeps what its own holders and the bodies do.
use Rattle.std.proofs.Common.{◌≡◌, ℕ, ◌+◌, List, refl, sym, ◌∙◌, subst, arith, inl, inr}
use Rattle.std.proofs.lemmas.Bool.Decides.{eqb_tells}
use Rattle.cf_contents.specs.Contents.{times}
use Rattle.cf_contents.specs.Examples.{after}
use Rattle.cf_graph.proofs.Flows.{FlowOwn, IsOwn, flow_apart, weigh-flow}
use Rattle.cf_graph.specs.Edges.{held_by, one, weigh}
use Rattle.cf_graph.specs.Flows.{Flow, IsThere, flow_lost, flow_won, operations_of}
use Rattle.cf_graph.specs.Holders.{Holder, callout, in_common, in_mode, owed, parcel, slot, variable}
use Rattle.cf_graph.specs.Operations.{run}
use Rattle.cf_model.proofs.Tokens.{HoldsAs, at_other, at_own, stopped_as}
use Rattle.cf_model.specs.Tokens.{HeldAsTold, callouts_hold, frames_hold, owed_in}
use Rattle.cf_model.specs.Changes.{apart}
use Rattle.cf_model.specs.State.{Parts, State, blank, left_of, stand_at, with_stand}
use Rattle.cf_model.specs.Steps.{Step, stand_after, state_after, stopped_at}
use Rattle.cf_next.specs.Demands.{Demand}
use Rattle.cf_next.specs.Stands.{Stand}
use Rattle.cf_syntax.specs.declared.script.Script.{Script}

-- what one flow does to one holder's number of references to an object
abbrev pub Balanced : Flow → Holder → ℕ → (before after : ℕ) → Type 0
Balanced f h o before after = after + flow_lost (one (held_by h o)) f ≡ before + flow_won (one (held_by h o)) f

-- what the step of a thread has to do: the flow is its own and can be done, and each of its holders and each body
-- holds afterwards what the flow says
pub record KeepsHeld (c : Script) (t : ℕ) (st : State) (old : Stand) (f : Flow) (p : Parts) (s : Stand) : Type 0 where
  pub own : FlowOwn t f
  pub there : IsThere f st.edges
  pub variables : (d v o : ℕ)
      → Balanced f (variable t d v) o (frames_hold c old.frames d v o) (frames_hold c s.frames d v o)
  pub callouts : (d o : ℕ) → Balanced f (callout t d) o (callouts_hold old.frames d o) (callouts_hold s.frames d o)
  pub owed : (o : ℕ) → Balanced f (owed t) o (owed_in o old.work) (owed_in o s.work)
  pub slots : (b o : ℕ)
      → Balanced f (slot b) o (times o (left_of st.parts.objects st.parts.dropped b)) (times o (left_of p.objects p.dropped b))

module _ (c : Script) (t : ℕ) (st : State) (d : Demand) (step : Step) (h : HeldAsTold c st) (k : KeepsHeld c t st (stand_at t st.stands) step.flow step.parts (stand_after t d step st)) where
  abbrev new : Stand
  new = stand_after t d step st

  abbrev stands : List Stand
  stands = stopped_at step.stops (with_stand t new st.stands)

  own_stand : HoldsAs c (stand_at t stands) new
  own_stand =
      subst (HoldsAs c (stand_at t stands)) (at_own blank t new st.stands) (stopped_as c step.stops t (with_stand t new st.stands))

  other_stand : (u : ℕ) → (u ≡ t → ⊥) → HoldsAs c (stand_at u stands) (stand_at u st.stands)
  other_stand u apart =
      subst (HoldsAs c (stand_at u stands)) (at_other blank u t new st.stands apart) (stopped_as c step.stops u (with_stand t new st.stands))

  by_law : (k : Holder) (o : ℕ)
      → weigh (one (held_by k o)) (run (operations_of step.flow) st.edges) + flow_lost (one (held_by k o)) step.flow ≡ weigh (one (held_by k o)) st.edges + flow_won (one (held_by k o)) step.flow
  by_law x o = weigh-flow (one (held_by x o)) step.flow st.edges k.there

  by_other : (x : Holder) (o : ℕ) → (IsOwn t x → ⊥)
      → weigh (one (held_by x o)) (run (operations_of step.flow) st.edges) ≡ weigh (one (held_by x o)) st.edges
  by_other x o apart =
      let none = flow_apart t (held_by x o) step.flow apart k.own in
      omega (arith, by_law x o, none.0, none.1)

  pub held_after : HeldAsTold c (state_after t d step st)
  held_after (variable u e v) o = elim (eqb_tells u t) [
    | inl q ↦ subst (λ (w : ℕ). weigh (one (held_by (variable w e v) o)) (run (operations_of step.flow) st.edges) ≡ frames_hold c (stand_at w stands).frames e v o) (sym q.1)
        (omega (arith, by_law (variable t e v) o, h (variable t e v) o, k.variables e v o, own_stand.variables e v o))
    | inr q ↦ by_other (variable u e v) o q.1 ∙ h (variable u e v) o ∙ sym ((other_stand u q.1).variables e v o)
  ]
  held_after (callout u e) o = elim (eqb_tells u t) [
    | inl q ↦ subst (λ (w : ℕ). weigh (one (held_by (callout w e) o)) (run (operations_of step.flow) st.edges) ≡ callouts_hold (stand_at w stands).frames e o) (sym q.1)
        (omega (arith, by_law (callout t e) o, h (callout t e) o, k.callouts e o, own_stand.callouts e o))
    | inr q ↦ by_other (callout u e) o q.1 ∙ h (callout u e) o ∙ sym ((other_stand u q.1).callouts e o)
  ]
  held_after (owed u) o = elim (eqb_tells u t) [
    | inl q ↦ subst (λ (w : ℕ). weigh (one (held_by (owed w) o)) (run (operations_of step.flow) st.edges) ≡ owed_in o (stand_at w stands).work) (sym q.1)
        (omega (arith, by_law (owed t) o, h (owed t) o, k.owed o, own_stand.owed o))
    | inr q ↦ by_other (owed u) o q.1 ∙ h (owed u) o ∙ sym ((other_stand u q.1).owed o)
  ]
  held_after (slot b) o = omega (arith, by_law (slot b) o, h (slot b) o, k.slots b o)
  held_after (parcel u e) o = refl
  held_after (in_mode u m) o = refl
  held_after (in_common u) o = refl
