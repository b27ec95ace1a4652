-- A statement that makes an item of a run loop, as the ground does it.
use Rattle.std.proofs.Common.{◌≡◌, ℕ, ℤ, ◌<◌, ◌∙◌, true, List, [], ◌∷◌, ◌++◌, length, map, Option, Some, None, refl, sym, ap, subst, arith}
use Rattle.cf_ids.specs.declared.answer.Answer.TheVariants as answers
use Rattle.cf_syntax.specs.declared.script.Script.{Script}
use Rattle.cf_syntax.specs.declared.statement.Statement.{Statement}
use Rattle.cf_syntax.specs.declared.statement.Statement.TheVariants as forms
use Rattle.cf_syntax.specs.Mentions.{first_of, makes_object}
use Rattle.cf_syntax.specs.Stage.{is_of_stage}
use Rattle.cf_syntax.specs.BlockLines.{says}
use Rattle.cf_syntax.proofs.BlockLaws.{owned_fits}
use Rattle.cf_graph.specs.Holders.{Holder, variable, parcel, slot}
use Rattle.cf_graph.specs.Edges.{Reference, held_by}
use Rattle.cf_graph.specs.Flows.{grows, gained_by}
use Rattle.cf_contents.specs.Contents.{present}
use Rattle.cf_contents.specs.Deeds.{fresh}
use Rattle.cf_contents.specs.Stores.{Held, live}
use Rattle.cf_body.specs.Items.{ItemView}
use Rattle.cf_next.specs.declared.action.Action.{Action}
use Rattle.cf_next.specs.Demands.{does}
use Rattle.cf_model.specs.State.{State, Parts}
use Rattle.cf_model.specs.Steps.{Bound, Made, Step, bind_step, bound_if, depth_of, frames_at, item_made, statement_step, step_of}
use Rattle.cf_model.specs.Journals.{After, makes_line}
use Rattle.cf_model.proofs.FirstHeld.{PassesBy, first_flowed}
use Rattle.cf_model.proofs.Sound.{sound}
use Rattle.cf_scene.proofs.Mirroring.{count-mirrors}
use Rattle.cf_world.specs.declared.ground.Ground.TheInside.{Inside}
use Rattle.cf_world.specs.Grounds.{IsGround, Mirrors, view_of}
use Rattle.cf_world.specs.Entering.{IsMaking, MayAct, item_body, item_new, used_in}
use Rattle.cf_world.proofs.Counting.{Enters, enters_by}
use Rattle.cf_world.proofs.Growing.{follows_step}
use Rattle.cf_world.proofs.Passing.{binds_leave, keeps_loops}
use Rattle.cf_world.proofs.Stating.{bind_mirrors, undropped_next, unmade_next}

-- what is bound where an item is made
item_bound_is : (s : Script) (p : Parts) (x : Statement) (used : List (Option ℕ)) (item : ItemView) (m : Option Made)
    → item_new (first_of used) m ≡ Some item
    → ◌≡◌ {A = Bound} (bound_if s p x used m) (record { answer = answers.Skip; origin = fresh (item_body item) })
item_bound_is s p x used item None e = absurd cc
item_bound_is s p x used item (Some m) e =
    let same : record { handler = m.handler; info = first_of used; valid = true; item = m.item } ≡ item = cc in
    ap (λ (i : ItemView). record { answer = answers.Skip; origin = fresh (item_body i) }) same

-- a statement that the reader takes makes no item but a source
pub staged_itemless : (x : Statement) → is_of_stage x ≡ true
    → ((v : ℕ) (order : ℤ) (handler : ℕ) (info : Option ℕ) → x ≡ forms.MakeSource v order handler info → ⊥)
    → item_made x ≡ None
staged_itemless (forms.MakeSource v order handler info) of none = absurd (none v order handler info refl)
staged_itemless (forms.MakeTimer v first interval handler info) of none = absurd cc
staged_itemless (forms.MakeObserver v mask repeats order handler info) of none = absurd cc
staged_itemless x of none = refl

-- what makes an item makes an object
makes_item : (x : Statement) (info : Option ℕ) (item : ItemView) → item_new info (item_made x) ≡ Some item
    → makes_object x ≡ true
makes_item (forms.MakeSource v order handler i) info item e = refl
makes_item (forms.MakeTimer v first interval handler i) info item e = refl
makes_item (forms.MakeObserver v mask repeats order handler i) info item e = refl
makes_item x info item e = absurd cc

-- the slots of a new object are of no parcel
slots_pass : (n u k : ℕ) (os : List ℕ) → PassesBy (parcel u k) (grows (map (held_by (slot n)) os) [])
slots_pass n u k [] = tt
slots_pass n u k (o ∷ os) = (refl, slots_pass n u k os)

slots_objects : (n : ℕ) (os : List ℕ) → map (λ (r : Reference). r.object) (map (held_by (slot n)) os) ≡ os
slots_objects n [] = refl
slots_objects n (o ∷ os) = ap (λ (ps : List ℕ). o ∷ ps) (slots_objects n os)

module _ (g : Inside) (t : ℕ) (a : Action) (inv : IsGround g) (acts : MayAct (view_of g) t a) (item : ItemView) (making : IsMaking (view_of g) t item) where
  abbrev s : Script
  s = g.script

  abbrev st : State
  st = After g.script g.journal.items

  abbrev x : Statement
  x = making.statement

  abbrev used : List (Option ℕ)
  used = used_in (view_of g) t x

  abbrev holder : Holder
  holder = variable t (depth_of (frames_at t st)) making.var

  abbrev binds_item : Step
  binds_item = bind_step holder st.parts (record { answer = answers.Skip; origin = fresh (item_body item) })

  step_is : step_of s t st (frames_at t st) (does (says x)) ≡ binds_item
  step_is =
      ap (statement_step s t (depth_of (frames_at t st)) st x used) making.binds
      ∙ ap (bind_step holder st.parts) (item_bound_is s st.parts x used item (item_made x) making.made)

  few : length st.parts.objects < 65536
  few = acts.few (ap makes_line making.demands ∙ makes_item x (first_of used) item making.made)

  pub few_bodies : length g.store.bodies < 65536
  few_bodies = omega (arith, few, count-mirrors st.parts g.store.bodies inv.follows.mirrors)

  pub item_enters : (bodies : List Held) → bodies ≡ g.store.bodies ++ live (item_body item) ∷ []
      → Enters s t st (answers.Object (length st.parts.objects)) (length st.parts.objects ∷ present (item.info ∷ [])) bodies g.parcels g.flags.items g.time g.loops
  item_enters bodies grown =
      let old = inv.follows in
      let n = length st.parts.objects in
      let slots = present (item.info ∷ []) in
      let gains : gained_by binds_item.flow ≡ n ∷ slots = ap (λ (os : List ℕ). n ∷ os) (slots_objects n slots) in
      let keeps = keeps_loops s t st (owned_fits s inv.script.owned) (sound s g.journal.items inv.script.owned) inv.script.stage g.loops old.has_loops in
      subst (λ (os : List ℕ). Enters s t st (answers.Object n) os bodies g.parcels g.flags.items g.time g.loops) gains
      (enters_by s t st (does (says x)) binds_item (answers.Object n) bodies g.parcels g.flags.items g.time g.loops making.demands step_is refl
      (follows_step s t st (does (says x)) binds_item bodies g.parcels g.flags.items g.time g.loops step_is
      (subst (Mirrors _) (sym grown)
      (bind_mirrors t (depth_of (frames_at t st)) making.var st answers.Skip g.store.bodies old.mirrors (unmade_next s g.journal.items inv.legal) (undropped_next s g.journal.items inv.legal) (fresh (item_body item))))
      old.parcels_are.has
      (λ u k. old.parcels_are.at u k ∙ sym (first_flowed (parcel u k) binds_item.flow st.edges (refl, slots_pass n u k slots)))
      old.flags_are old.time_is (keeps (does (says x)) making.demands (binds_leave x making.var making.binds))))
