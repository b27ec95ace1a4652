-- The step of each line keeps what its thread's holders hold.
use Rattle.std.proofs.Common.{◌++◌, ◌+◌, ◌∷◌, ◌≡◌, Bool, List, None, Option, Some, [], arith, cond, eqb, false, length, refl, true, ℕ}
use Rattle.cf_ids.specs.declared.answer.Answer.{Answer}
use Rattle.cf_syntax.specs.BlockLines.{BlockLine, line_ownership}
use Rattle.cf_syntax.specs.declared.mention.Ownership.{Ownership}
use Rattle.cf_syntax.specs.declared.mention.Ownership.TheVariants.{Binds, Keeps, Releases, Retains}
use Rattle.cf_syntax.specs.declared.script.Script.{Script}
use Rattle.cf_contents.specs.Contents.{slots_in}
use Rattle.cf_contents.specs.Deeds.{Origin, fresh, nowhere, there}
use Rattle.cf_graph.proofs.Counts.{weigh-append}
use Rattle.cf_graph.proofs.Flows.{other_weigh}
use Rattle.cf_graph.specs.Edges.{Reference, held_by, held_if, one, weigh}
use Rattle.cf_graph.specs.Flows.{Flow, flow_lost, flow_won, grows, shrinks, still}
use Rattle.cf_graph.specs.Holders.{Holder, callout, owed, parcel, slot, variable}
use Rattle.cf_next.specs.Advance.{advanced, bindings_by, bound_object, is_entered, line_done, owed_by}
use Rattle.cf_next.specs.Demands.{Demand, does}
use Rattle.cf_next.specs.Facts.{Facts}
use Rattle.cf_next.specs.Stands.{Binding, Frame, Stand, Work, look}
use Rattle.cf_model.proofs.Fitting.{StepFits}
use Rattle.cf_model.proofs.Lifting.{Balanced, held_after}
use Rattle.cf_model.proofs.Owning.{OwnsAfter, count_of, loses, wins}
use Rattle.cf_model.proofs.Places.{AllPlaces, kinds_apart, moves_lost, moves_other, places_weigh}
use Rattle.cf_model.proofs.Stepping.{at_depth, held_if_apart, owed-bodies, run_frames_call, run_frames_hold, top_holds}
use Rattle.cf_model.proofs.Tokens.{lines_then}
use Rattle.cf_model.specs.Tokens.{HeldAsTold, callouts_hold, frame_holds, frames_hold, lines_done, owed_in}
use Rattle.cf_model.specs.Own.{moves_to}
use Rattle.cf_model.specs.State.{State, stand_at}
use Rattle.cf_model.specs.Steps.{Step, new_slots, stand_after, state_after}

-- what a thread's own holders hold
pub record OwnHeld (c : Script) (t : ℕ) (es : List Reference) (s : Stand) : Type 0 where
  pub variables : (d v o : ℕ) → weigh (one (held_by (variable t d v) o)) es ≡ frames_hold c s.frames d v o
  pub callouts : (d o : ℕ) → weigh (one (held_by (callout t d) o)) es ≡ callouts_hold s.frames d o
  pub owed : (o : ℕ) → weigh (one (held_by (owed t) o)) es ≡ owed_in o s.work

abbrev pub stand : Frame → List Frame → List Work → Bool → Stand
stand f fs work done = record { frames = f ∷ fs; work = work; is_done = done }

-- a step keeps what its thread's own holders hold: each has afterwards what the flow says
pub record KeepsOwn (c : Script) (t : ℕ) (old : Stand) (f : Flow) (new : Stand) : Type 0 where
  pub variables : (d v o : ℕ)
      → Balanced f (variable t d v) o (frames_hold c old.frames d v o) (frames_hold c new.frames d v o)
  pub callouts : (d o : ℕ) → Balanced f (callout t d) o (callouts_hold old.frames d o) (callouts_hold new.frames d o)
  pub owed : (o : ℕ) → Balanced f (owed t) o (owed_in o old.work) (owed_in o new.work)

-- with a step that fits, all holders hold what they are said to hold
pub all_held : (c : Script) (t : ℕ) (st : State) (d : Demand) (step : Step) → HeldAsTold c st → StepFits t st step
    → KeepsOwn c t (stand_at t st.stands) step.flow (stand_after t d step st) → HeldAsTold c (state_after t d step st)
all_held c t st d step held fits keeps = held_after c t st d step held (record {
  own = fits.own;
  there = fits.there;
  variables = keeps.variables;
  callouts = keeps.callouts;
  owed = keeps.owed;
  slots = fits.slots;
})

-- a flow that has nothing to do with what a thread's callouts hold
abbrev pub NoCallouts : ℕ → Flow → Type 0
NoCallouts t fl = (d o : ℕ) → flow_won (one (held_by (callout t d) o)) fl ≡ flow_lost (one (held_by (callout t d) o)) fl

-- ---- lines

-- the flow of a line: what it wins and loses by the variables of its frame
pub record LineFlow (t depth : ℕ) (bs : List Binding) (ownership : Ownership) (object : Option ℕ) (fl : Flow) : Type 0 where
  pub won : (d v o : ℕ)
      → flow_won (one (held_by (variable t d v) o)) fl ≡ cond (eqb depth d) (wins bs ownership object v o) 0
  pub lost : (d v o : ℕ)
      → flow_lost (one (held_by (variable t d v) o)) fl ≡ cond (eqb depth d) (loses bs ownership v o) 0
  pub callouts : NoCallouts t fl

line_after : (c : Script) (facts : Facts) (t : ℕ) (x : BlockLine) (answer : Answer) (list : List ℕ) (f : Frame)
    (ownership : Ownership) (object : Option ℕ)
    → line_ownership x ≡ ownership → bound_object facts t answer x ≡ object → (v o : ℕ)
    → frame_holds c (line_done facts t x answer list f) v o ≡ count_of (lines_then c f x answer) (bindings_by ownership object ++ f.bindings) v o
line_after c facts t x answer list f ownership object k b v o = rw (k, b) refl

pub line_keeps : (c : Script) (facts : Facts) (t : ℕ) (f : Frame) (fs : List Frame) (work : List Work) (done : Bool)
    (x : BlockLine) (answer : Answer) (finals list : List ℕ) (fl : Flow) (ownership : Ownership) (object : Option ℕ)
    → line_ownership x ≡ ownership
    → bound_object facts t answer x ≡ object
    → OwnsAfter (lines_done c f) (lines_then c f x answer) f.bindings ownership object
    → LineFlow t (length fs) f.bindings ownership object fl
    → ((o : ℕ) → owed_in o work ≡ 0)
    → ((o : ℕ) → owed_in o (owed_by x list) + flow_lost (one (held_by (owed t) o)) fl ≡ flow_won (one (held_by (owed t) o)) fl)
    → KeepsOwn c t (stand f fs work done) fl (advanced facts t (does x) answer finals list (stand f fs work done))
line_keeps c facts t f fs work done x answer finals list fl ownership object k b next flow idle gives =
    let g = line_done facts t x answer list f in
    record {
      variables = λ d v o.
          omega (
            arith,
            run_frames_hold c facts.time x (is_entered answer) (g ∷ fs) d v o,
            top_holds c f g fs (wins f.bindings ownership object) (loses f.bindings ownership) (λ w q. rw (line_after c facts t x answer list f ownership object k b w q) (next.count w q)) d v o,
            flow.won d v o,
            flow.lost d v o,
          );
      callouts = λ d o. omega (arith, run_frames_call facts.time x (is_entered answer) (g ∷ fs) d o, flow.callouts d o);
      owed = λ o. omega (arith, idle o, gives o, owed-bodies o finals (owed_by x list));
    }

-- ---- the flows of lines

no_slots : (t d v o n : ℕ) (origin : Origin) → weigh (one (held_by (variable t d v) o)) (new_slots n origin) ≡ 0
no_slots t d v o n nowhere = refl
no_slots t d v o n (fresh ob) = other_weigh (held_by (variable t d v) o) (slot n) (slots_in ob.content) (kinds_apart (variable t d v) (slot n) refl)
no_slots t d v o n (there x) = refl

no_slots_called : (t d o n : ℕ) (origin : Origin) → weigh (one (held_by (callout t d) o)) (new_slots n origin) ≡ 0
no_slots_called t d o n nowhere = refl
no_slots_called t d o n (fresh ob) = other_weigh (held_by (callout t d) o) (slot n) (slots_in ob.content) (kinds_apart (callout t d) (slot n) refl)
no_slots_called t d o n (there x) = refl

pub no_slots_owed : (t o n : ℕ) (origin : Origin) → weigh (one (held_by (owed t) o)) (new_slots n origin) ≡ 0
no_slots_owed t o n nowhere = refl
no_slots_owed t o n (fresh ob) = other_weigh (held_by (owed t) o) (slot n) (slots_in ob.content) (kinds_apart (owed t) (slot n) refl)
no_slots_owed t o n (there x) = refl

cond_zero : (b : Bool) → ◌≡◌ {A = ℕ} 0 (cond b 0 0)
cond_zero true = refl
cond_zero false = refl

pub bind_flow : (t depth w n : ℕ) (bs : List Binding) (object : Option ℕ) (origin : Origin)
    → LineFlow t depth bs (Binds w) object (grows (held_if (variable t depth w) object ++ new_slots n origin) [])
bind_flow t depth w n bs object origin = record {
  won = λ d v o. omega (arith, weigh-append (one (held_by (variable t d v) o)) (held_if (variable t depth w) object) (new_slots n origin), at_depth t d depth v w o object, no_slots t d v o n origin);
  lost = λ d v o. cond_zero (eqb depth d);
  callouts = λ d o. omega (arith, weigh-append (one (held_by (callout t d) o)) (held_if (variable t depth w) object) (new_slots n origin), held_if_apart (held_by (callout t d) o) (variable t depth w) object (kinds_apart (callout t d) (variable t depth w) refl), no_slots_called t d o n origin);
}

pub retain_flow : (t depth w : ℕ) (bs : List Binding) (object bound : Option ℕ) → look w bs ≡ object
    → LineFlow t depth bs (Retains w) bound (grows (held_if (variable t depth w) object) [])
retain_flow t depth w bs object bound e = record {
  won = λ d v o. rw e (omega (arith, at_depth t d depth v w o object));
  lost = λ d v o. cond_zero (eqb depth d);
  callouts = λ d o. omega (arith, held_if_apart (held_by (callout t d) o) (variable t depth w) object (kinds_apart (callout t d) (variable t depth w) refl));
}

pub release_flow : (t depth w x : ℕ) (bs : List Binding) (bound : Option ℕ) → look w bs ≡ Some x
    → LineFlow t depth bs (Releases w) bound (shrinks (held_by (variable t depth w) x))
release_flow t depth w x bs bound e = record {
  won = λ d v o. cond_zero (eqb depth d);
  lost = λ d v o. rw e (omega (arith, at_depth t d depth v w o (Some x)));
  callouts = λ d o. refl;
}

-- an empty variable has nothing to lose
pub skip_flow : (t depth w : ℕ) (bs : List Binding) (bound : Option ℕ) → look w bs ≡ None
    → LineFlow t depth bs (Releases w) bound still
skip_flow t depth w bs bound e = record {
  won = λ d v o. cond_zero (eqb depth d);
  lost = λ d v o. rw e (cond_zero (eqb depth d));
  callouts = λ d o. refl;
}

-- a claim moves a reference to a variable, and a pack takes one from it
abbrev pub claim_by : Holder → Option ℕ → Holder → Flow
claim_by h None k = still
claim_by h (Some o) k = grows [] (moves_to k (held_by h o ∷ []))

pub claim_flow : (t depth w k : ℕ) (bs : List Binding) (object : Option ℕ)
    → LineFlow t depth bs (Binds w) object (claim_by (parcel t k) object (variable t depth w))
claim_flow t depth w k bs None = record { won = λ d v o. cond_zero (eqb depth d); lost = λ d v o. cond_zero (eqb depth d); callouts = λ d o. refl }
claim_flow t depth w k bs (Some x) = record {
  won = λ d v o. omega (arith, at_depth t d depth v w o (Some x));
  lost = λ d v o. cond_zero (eqb depth d);
  callouts = λ d o. refl;
}

pub pack_flow : (t depth w u k x : ℕ) (bs : List Binding) (bound : Option ℕ) → look w bs ≡ Some x
    → LineFlow t depth bs (Releases w) bound (grows [] (moves_to (parcel u k) (held_by (variable t depth w) x ∷ [])))
pack_flow t depth w u k x bs bound e = record {
  won = λ d v o. cond_zero (eqb depth d);
  lost = λ d v o. rw e (omega (arith, at_depth t d depth v w o (Some x)));
  callouts = λ d o. refl;
}

-- what a deal does to bodies and loops does nothing to variables and callouts
pub deal_flow : (t depth : ℕ) (bs : List Binding) (bound : Option ℕ) (ins outs : List Reference) → AllPlaces ins
    → AllPlaces outs → LineFlow t depth bs Keeps bound (grows ins (moves_to (owed t) outs))
deal_flow t depth bs bound ins outs i o = record {
  won = λ d v q. omega (arith, places_weigh (held_by (variable t d v) q) ins (λ x. x) i, moves_other (owed t) (held_by (variable t d v) q) outs (kinds_apart (variable t d v) (owed t) refl), cond_zero (eqb depth d));
  lost = λ d v q. omega (arith, moves_lost (owed t) (one (held_by (variable t d v) q)) outs, places_weigh (held_by (variable t d v) q) outs (λ x. x) o, cond_zero (eqb depth d));
  callouts = λ d q. omega (arith, places_weigh (held_by (callout t d) q) ins (λ x. x) i, moves_other (owed t) (held_by (callout t d) q) outs (kinds_apart (callout t d) (owed t) refl), moves_lost (owed t) (one (held_by (callout t d) q)) outs, places_weigh (held_by (callout t d) q) outs (λ x. x) o);
}
