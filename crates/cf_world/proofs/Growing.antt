-- An entry of a thread makes a journal longer, and the fields that follow the state after it are those of a ground again.
use Rattle.std.proofs.Common.{◌≡◌, ℕ, ◌-◌, ◌<◌, ◌∙◌, true, false, List, [], ◌∷◌, ◌++◌, length, map, Option, Some, refl, sym, ap, subst, arith, length-append}
use Rattle.std.specs.Prelude.{vec_len, vec_capacity}
use Rattle.std.specs.Global.{Vec}
use Rattle.rl_modes.specs.Loops.{Loop}
use Rattle.cf_syntax.specs.declared.script.Script.{Script}
use Rattle.cf_syntax.proofs.BlockLaws.{owned_fits}
use Rattle.cf_graph.specs.Holders.{Holder, parcel, same_holder}
use Rattle.cf_graph.specs.Edges.{held_by}
use Rattle.cf_graph.specs.Flows.{grows, flowed}
use Rattle.cf_contents.specs.Stores.{Held, Ready}
use Rattle.cf_next.specs.declared.action.Action.{Action}
use Rattle.cf_next.specs.Demands.{Demand}
use Rattle.cf_model.specs.declared.entry.Entry.{Entry}
use Rattle.cf_model.specs.State.{State, Parts, first_held}
use Rattle.cf_model.specs.Own.{moves_to}
use Rattle.cf_model.specs.Steps.{Step, step_of, step_finals, frames_at, demanded, done_by, acted}
use Rattle.cf_model.specs.Journals.{Next, makes, After, IsLegalEntry, IsLegal}
use Rattle.cf_model.proofs.Entries.{action_view}
use Rattle.cf_model.proofs.Growth.{grows_by}
use Rattle.cf_model.proofs.FirstHeld.{PassesBy}
use Rattle.cf_model.proofs.OwnedNext.{legal_next}
use Rattle.cf_model.proofs.Sound.{sound}
use Rattle.cf_scene.specs.declared.flags.Flags.{Flags}
use Rattle.cf_world.specs.declared.ground.Ground.TheInside.{Inside}
use Rattle.cf_world.specs.Worlds.{entry_of}
use Rattle.cf_world.specs.Grounds.{Mirrors, parcel_at, HasPlaces, flags_of, HasLoops, Follows, MayRun, IsGround, view_of}
use Rattle.cf_world.proofs.Moving.{no_lead}
use Rattle.cf_world.proofs.Stalling as stalling
use Rattle.cf_world.specs.Entering.{MayAct, HasEntered, demand_in}

-- ---- the entry of a thread's next action

module _ (s : Script) (es : List Entry) (t : ℕ) (a : Action) (within : t < s.thread_count) (run : MayRun s) (legal : IsLegal s es) (next : Next s (After s es) t ≡ Some a) (few : makes s (After s es) t ≡ true → length (After s es).parts.objects < 65536) where
  abbrev st : State
  st = After s es

  abbrev entry : Entry
  entry = entry_of s t st a

  legal_entry : IsLegalEntry s st entry
  legal_entry = legal_next s st t a (owned_fits s run.owned) (sound s es run.owned) next few

  pub longer_legal : IsLegal s (es ++ entry ∷ [])
  longer_legal = (grows_by s es entry).legal legal (stalling.never_stalled s es t a within legal next) legal_entry

  pub longer_after : (d : Demand) → demanded s st t ≡ Some d → After s (es ++ entry ∷ []) ≡ done_by s t st d
  longer_after d e =
      (grows_by s es entry).after
      ∙ (no_lead s st t a entry.answer (omega (arith, within, run.numbered.threads)) (action_view a) legal_entry).after s t st
      ∙ ap (acted s t st) e

-- the fields with the longer journal are a ground again, if they follow the state after the entry
module _ (g : Inside) (t : ℕ) (a : Action) (d : Demand) (inv : IsGround g) (acts : MayAct (view_of g) t a) (demands : demand_in (view_of g) t ≡ Some d) where
  abbrev s : Script
  s = g.script

  abbrev now : State
  now = After g.script g.journal.items

  pub ground_after : (g' : Inside) → g'.script ≡ g.script
      → g'.journal.items ≡ g.journal.items ++ entry_of s t now a ∷ []
      → Follows s (done_by s t now d) g'.store.bodies g'.parcels g'.flags.items g'.time g'.loops → IsGround g'
  ground_after g' same grown follows =
      let long : List Entry = g.journal.items ++ entry_of s t now a ∷ [] in
      let legal : IsLegal s long = longer_legal s g.journal.items t a acts.thread inv.script inv.legal acts.next acts.few in
      let after : After s long ≡ done_by s t now d = longer_after s g.journal.items t a acts.thread inv.script inv.legal acts.next acts.few d demands in
      let here : Follows s (After s g'.journal.items) g'.store.bodies g'.parcels g'.flags.items g'.time g'.loops =
      subst (λ (es : List Entry). Follows s (After s es) g'.store.bodies g'.parcels g'.flags.items g'.time g'.loops) (sym grown)
      (subst (λ (x : State). Follows s x g'.store.bodies g'.parcels g'.flags.items g'.time g'.loops) (sym after) follows) in
      record {
        script = subst MayRun (sym same) inv.script;
        legal = subst (λ (x : Script). IsLegal x g'.journal.items) (sym same) (subst (IsLegal s) (sym grown) legal);
        short = omega (arith, ap length grown, length-append g.journal.items (entry_of s t now a ∷ []), acts.short);
        follows = subst (λ (x : Script). Follows x (After x g'.journal.items) g'.store.bodies g'.parcels g'.flags.items g'.time g'.loops) (sym same) here;
      }

-- what the callers of an entry see of it
pub has_entered : (g g' : Inside) (t : ℕ) (a : Action) → MayAct (view_of g) t a → g'.script ≡ g.script
    → g'.journal.items ≡ g.journal.items ++ entry_of g.script t (After g.script g.journal.items) a ∷ []
    → vec_capacity g'.journal ≡ vec_capacity g.journal → HasEntered t a (view_of g) (view_of g')
has_entered g g' t a acts same grown capacity = record {
  script = same;
  journal = grown;
  room = omega (arith, ap length grown, length-append g.journal.items (entry_of g.script t (After g.script g.journal.items) a ∷ []), acts.room, capacity);
}

pub has_written : (g : Inside) (t : ℕ) (a : Action) → MayAct (view_of g) t a
    → (journal : Vec Entry) (ready : Option Ready) (body_room : ℕ) (loops : List Loop)
    → journal.items ≡ g.journal.items ++ entry_of g.script t (After g.script g.journal.items) a ∷ [] → vec_capacity journal ≡ vec_capacity g.journal
    → HasEntered t a (view_of g) (record { script = g.script; journal = journal.items; journal_room = vec_capacity journal - vec_len journal; ready = ready; body_room = body_room; loops = loops })
has_written g t a acts journal ready body_room loops grown capacity = record {
  script = refl;
  journal = grown;
  room = omega (arith, ap length grown, length-append g.journal.items (entry_of g.script t (After g.script g.journal.items) a ∷ []), acts.room, capacity);
}

-- ---- what a step leaves

-- the parts that a demand leaves
abbrev pub parts_by : Script → ℕ → State → Demand → Parts
parts_by s t st d =
    let step = step_of s t st (frames_at t st) d in
    record step.parts { finalised = step_finals step st ++ step.parts.finalised }

-- fields that follow the parts and the references of a step follow the state that it leaves
pub follows_step : (s : Script) (t : ℕ) (st : State) (d : Demand) (step : Step) (bodies : List Held)
    (rows : List (List (Option ℕ))) (flags : List Flags) (time : ℕ) (loops : List Loop)
    → step_of s t st (frames_at t st) d ≡ step → Mirrors (record step.parts { finalised = step_finals step st ++ step.parts.finalised }) bodies → HasPlaces s rows
    → ((u k : ℕ) → parcel_at rows u k ≡ first_held (parcel u k) (flowed step.flow st.edges)) → map flags_of flags ≡ step.parts.flags → time ≡ step.parts.time
    → HasLoops s (done_by s t st d) loops
    → Follows s (done_by s t st d) bodies rows flags time loops
follows_step s t st d step bodies rows flags time loops is mirrors has at flags_are time_is has_loops =
    record {
      mirrors = subst (λ (x : Step). Mirrors (record x.parts { finalised = step_finals x st ++ x.parts.finalised }) bodies) (sym is) mirrors;
      parcels_are = record { has = has; at = λ u k. at u k ∙ ap (λ (x : Step). first_held (parcel u k) (flowed x.flow st.edges)) (sym is) };
      flags_are = flags_are ∙ ap (λ (x : Step). x.parts.flags) (sym is);
      time_is = time_is ∙ ap (λ (x : Step). x.parts.time) (sym is);
      has_loops = has_loops;
    }

-- ---- flows that pass a holder by

pub passes_moves : (h k to : Holder) (os : List ℕ) → same_holder h k ≡ false → same_holder h to ≡ false
    → PassesBy h (grows [] (moves_to to (map (held_by k) os)))
passes_moves h k to [] from gone = tt
passes_moves h k to (o ∷ os) from gone = (from, gone, passes_moves h k to os from gone)

pub passes_held : (h k to : Holder) (os ps : List ℕ) → same_holder h k ≡ false → same_holder h to ≡ false
    → PassesBy h (grows (map (held_by k) os) (moves_to to (map (held_by k) ps)))
passes_held h k to [] ps from gone = passes_moves h k to ps from gone
passes_held h k to (o ∷ os) ps from gone = (from, passes_held h k to os ps from gone)
