-- What the entry of a statement that binds a variable or acts on bodies leaves: the bodies mirror the state after it, and
-- the parcels, the flags and the time are as they were.
use Rattle.std.proofs.Common.{◌≡◌, ℕ, zero, suc, ◌<◌, ◌∙◌, Bool, true, false, cond, List, [], ◌∷◌, ◌++◌, length, map, Option, Some, None, refl, sym, ap, subst, arith}
use Rattle.std.specs.Prelude.{slice_get, IfSome, IsSome}
use Rattle.cf_ids.specs.declared.answer.Answer.{Answer}
use Rattle.cf_syntax.specs.declared.script.Script.{Script}
use Rattle.cf_syntax.specs.declared.statement.Statement.{Statement}
use Rattle.cf_syntax.specs.declared.mention.Ownership.{Ownership}
use Rattle.cf_syntax.specs.declared.mention.Ownership.TheVariants.{Binds}
use Rattle.cf_syntax.specs.Mentions.{ownership_of, first_of, used_at, makes_object}
use Rattle.cf_syntax.specs.BlockLines.{says}
use Rattle.cf_graph.specs.Holders.{Holder, variable, owed, parcel, slot}
use Rattle.cf_graph.specs.Edges.{Reference, held_by, held_if}
use Rattle.cf_graph.specs.Flows.{grows, flowed, gained_by}
use Rattle.cf_contents.specs.Contents.{Object, present, times}
use Rattle.cf_contents.specs.Keys.{numbered}
use Rattle.cf_contents.specs.Deeds.{Origin, nowhere, fresh, there, Change, unchanged, Deed, object_of, taken_in, given_out}
use Rattle.cf_contents.specs.Stores.{Held, Ready, objects_of, bodies_changed, live}
use Rattle.cf_contents.proofs.SlotLaws.{MakesEmpty}
use Rattle.cf_contents.proofs.FormLaws.{form_fits, Fits, MakesOnly, ChangesFor}
use Rattle.cf_next.specs.declared.action.Action.{Action}
use Rattle.cf_next.specs.Demands.{Demand, does}
use Rattle.cf_model.specs.declared.entry.Entry.{Entry}
use Rattle.cf_model.specs.State.{State, first_held}
use Rattle.cf_model.specs.Deals.{Deal, change_deal, deal_of, posts_of}
use Rattle.cf_model.specs.Steps.{Step, Made, bound_if, found, new_slots, object_answer, bind_step, deal_step, statement_step, step_of, step_answer, step_finals, frames_at, depth_of, demanded, done_by, answer_if}
use Rattle.cf_model.specs.Flowing.{flow_if}
use Rattle.cf_model.specs.Journals.{After, IsLegal, makes_line}
use Rattle.cf_model.specs.Plain.{deed_in, DealsPlainly}
use Rattle.cf_model.proofs.FirstHeld.{first_flowed}
use Rattle.cf_model.proofs.Finality.{kept as kept_steady}
use Rattle.cf_model.proofs.Limiting.{few_of_legal}
use Rattle.cf_store.specs.declared.store.Edited.{Edited}
use Rattle.cf_store.specs.Applies as applies
use Rattle.cf_store.specs.Applies.{origin_of}
use Rattle.cf_world.specs.declared.ground.Ground.TheInside.{Inside}
use Rattle.cf_world.specs.Bindings.{found_in, bodies_from, MayMake}
use Rattle.cf_world.specs.Worlds.{entry_of}
use Rattle.cf_world.specs.Grounds.{Mirrors, Follows, IsGround, view_of, deed_of}
use Rattle.cf_world.specs.Entering.{MayAct, IsDeed, IsBinding, gained_in, listed_if, listed_in, used_in}
use Rattle.cf_world.proofs.Growing.{follows_step, passes_held}
use Rattle.cf_syntax.proofs.BlockLaws.{owned_fits}
use Rattle.cf_model.proofs.Sound.{sound}
use Rattle.cf_world.proofs.Apart.{apart_leaves}
use Rattle.cf_world.proofs.Bodies.{bodies_plainly}
use Rattle.cf_world.proofs.Passing.{KeepsLoops, keeps_loops, said_of_stage, binds_leave}
use Rattle.cf_scene.proofs.Mirroring.{AreMirrored, mirrored, mirrors_by, mirrored_changed, mirrored_made, bodies_unchanged, count-mirrors}

if_some : {A : Type 0} (o : Option A) (x : A) (P : A → Type 0) → o ≡ Some x → IfSome o P → P x
if_some o x P e h = subst (λ q. IfSome q P) e h

pub is_some : {A : Type 0} {o : Option A} {x : A} → o ≡ Some x → IsSome o
is_some e = subst (λ q. IsSome q) (sym e) refl

objects_held : (h : Holder) (os : List ℕ) → map (λ (r : Reference). r.object) (map (held_by h) os) ≡ os
objects_held h [] = refl
objects_held h (o ∷ os) = ap (λ (ps : List ℕ). o ∷ ps) (objects_held h os)

append_none : {A : Type 0} (xs : List A) → xs ++ [] ≡ xs
append_none [] = refl
append_none (x ∷ xs) = ap (λ ys. x ∷ ys) (append_none xs)

-- ---- the step of a change of a body

module _ (t : ℕ) (st : State) (a : Answer) (change : Change) where
  abbrev changes : Option ℕ → Step
  changes o = deal_step t (change_deal st.parts a o change) []

  deal_answer : (o : Option ℕ) → step_answer (changes o) st ≡ a
  deal_answer None = refl
  deal_answer (Some b) = refl

  deal_gains : (o : Option ℕ) → gained_by (changes o).flow ≡ taken_in (object_of st.parts.objects o) change
  deal_gains None = refl
  deal_gains (Some b) = objects_held (slot b) (taken_in (slice_get st.parts.objects b) change)

  deal_lists : (o : Option ℕ) → (changes o).list ≡ given_out (object_of st.parts.objects o) change
  deal_lists None = refl
  deal_lists (Some b) =
      let out = given_out (slice_get st.parts.objects b) change in
      append_none (map (λ (r : Reference). r.object) (map (held_by (slot b)) out)) ∙ objects_held (slot b) out

  deal_mirrors : (o : Option ℕ) (bodies : List Held) → Mirrors st.parts bodies
      → Mirrors (record (changes o).parts { finalised = step_finals (changes o) st ++ (changes o).parts.finalised }) (bodies_changed o change bodies)
  deal_mirrors None bodies h = mirrors_by _ bodies (mirrored st.parts bodies h)
  deal_mirrors (Some b) bodies h =
      mirrors_by _ (bodies_changed (Some b) change bodies) (mirrored_changed st.parts.objects st.parts.finalised st.parts.dropped bodies (Some b) change (mirrored st.parts bodies h))

  deal_parcels : (o : Option ℕ) (u k : ℕ)
      → first_held (parcel u k) (flowed (changes o).flow st.edges) ≡ first_held (parcel u k) st.edges
  deal_parcels None u k = refl
  deal_parcels (Some b) u k =
      first_flowed (parcel u k) (changes (Some b)).flow st.edges (passes_held (parcel u k) (slot b) (owed t) (taken_in (slice_get st.parts.objects b) change) (given_out (slice_get st.parts.objects b) change) refl refl)

  deal_flags : (o : Option ℕ) → st.parts.flags ≡ (changes o).parts.flags
  deal_flags None = refl
  deal_flags (Some b) = refl

  deal_time : (o : Option ℕ) → st.parts.time ≡ (changes o).parts.time
  deal_time None = refl
  deal_time (Some b) = refl

-- ---- a statement that acts on bodies

module _ (g : Inside) (t : ℕ) (inv : IsGround g) (deed : IsDeed (view_of g) t) where
  abbrev s : Script
  s = g.script

  abbrev st : State
  st = After g.script g.journal.items

  abbrev x : Statement
  x = deed.statement

  abbrev used : List (Option ℕ)
  used = used_in (view_of g) t x

  abbrev does_it : Deed
  does_it = deed_in s st x used

  abbrev changed : Step
  changed = deal_step t (change_deal st.parts does_it.answer (first_of used) does_it.change) []

  plainly : DealsPlainly s t st x used
  plainly = bodies_plainly s t st x used (said_of_stage s st t inv.script.stage x deed.demands) deed.apart deed.keeps

  deal_is : deal_of s t st x used ≡ change_deal st.parts does_it.answer (first_of used) does_it.change
  deal_is = plainly.deal ∙ ap (change_deal st.parts does_it.answer (first_of used)) plainly.skips

  step_is : step_of s t st (frames_at t st) (does (says x)) ≡ changed
  step_is =
      ap (statement_step s t (depth_of (frames_at t st)) st x used) deed.keeps
      ∙ ap (λ (d : Deal). deal_step t d (posts_of st.parts x used)) deal_is
      ∙ ap (deal_step t (change_deal st.parts does_it.answer (first_of used) does_it.change)) plainly.posts

  keeps : KeepsLoops s t st g.loops
  keeps = keeps_loops s t st (owned_fits s inv.script.owned) (sound s g.journal.items inv.script.owned) inv.script.stage g.loops inv.follows.has_loops

  pub dealt_ready : g.store.ready ≡ Some (deed_of s st x used)
  dealt_ready = deed.ready

  pub dealt_follows : (bodies : List Held)
      → IfSome g.store.ready (λ (r : Ready). bodies ≡ bodies_changed r.object r.deed.change g.store.bodies)
      → Follows s (done_by s t st (does (says x))) bodies g.parcels g.flags.items g.time g.loops
  dealt_follows bodies h =
      let is : bodies ≡ bodies_changed (first_of used) does_it.change g.store.bodies = if_some g.store.ready (deed_of s st x used) _ deed.ready h in
      let old = inv.follows in
      follows_step s t st (does (says x)) changed bodies g.parcels g.flags.items g.time g.loops step_is
      (subst (Mirrors _) (sym is) (deal_mirrors t st does_it.answer does_it.change (first_of used) g.store.bodies old.mirrors))
      old.parcels_are.has
      (λ u k. old.parcels_are.at u k ∙ sym (deal_parcels t st does_it.answer does_it.change (first_of used) u k))
      (old.flags_are ∙ deal_flags t st does_it.answer does_it.change (first_of used))
      (old.time_is ∙ deal_time t st does_it.answer does_it.change (first_of used))
      (keeps (does (says x)) deed.demands (apart_leaves x deed.apart))

  pub dealt_entry : (a : Action) (e : Edited) → IfSome g.store.ready (λ (r : Ready). applies.IsDeed r.deed e)
      → ◌≡◌ {A = Entry} (record { thread = t; action = a; answer = e.answer }) (entry_of s t st a)
  dealt_entry a e h =
      let is = if_some g.store.ready (deed_of s st x used) _ deed.ready h in
      let answer : e.answer ≡ answer_if s t st (demanded s st t) =
      is.answer ∙ sym (deal_answer t st does_it.answer does_it.change (first_of used)) ∙ ap (λ (y : Step). step_answer y st) (sym step_is) ∙ ap (answer_if s t st) (sym deed.demands) in
      ap (λ (y : Answer). record { thread = t; action = a; answer = y }) answer

  objects_are : objects_of g.store.bodies ≡ st.parts.objects
  objects_are = inv.follows.mirrors.objects_are

  pub dealt_gained : (took : List ℕ)
      → IfSome g.store.ready (λ (r : Ready). took ≡ taken_in (object_of (objects_of g.store.bodies) r.object) r.deed.change)
      → took ≡ gained_in (view_of g) t
  dealt_gained took h =
      if_some g.store.ready (deed_of s st x used) _ deed.ready h
      ∙ ap (λ (obs : List Object). taken_in (object_of obs (first_of used)) does_it.change) objects_are
      ∙ sym (deal_gains t st does_it.answer does_it.change (first_of used))
      ∙ ap (λ (y : Step). gained_by y.flow) (sym step_is)
      ∙ ap (λ (d : Option Demand). gained_by (flow_if s t st d)) (sym deed.demands)

  pub dealt_listed : (gave : List ℕ)
      → IfSome g.store.ready (λ (r : Ready). gave ≡ given_out (object_of (objects_of g.store.bodies) r.object) r.deed.change)
      → gave ≡ listed_in (view_of g) t
  dealt_listed gave h =
      if_some g.store.ready (deed_of s st x used) _ deed.ready h
      ∙ ap (λ (obs : List Object). given_out (object_of obs (first_of used)) does_it.change) objects_are
      ∙ sym (deal_lists t st does_it.answer does_it.change (first_of used))
      ∙ ap (λ (y : Step). y.list) (sym step_is)
      ∙ ap (listed_if s t st) (sym deed.demands)

-- ---- the step that binds

mirrored_same : (finalised dropped : List ℕ) (objects others : List Object) (bodies after : List Held)
    → others ≡ objects → after ≡ bodies → AreMirrored objects finalised dropped bodies
    → AreMirrored others finalised dropped after
mirrored_same finalised dropped objects others bodies after e q h =
    subst (λ (obs : List Object). AreMirrored obs finalised dropped after) (sym e) (subst (AreMirrored objects finalised dropped) (sym q) h)

module _ (t d v : ℕ) (st : State) (a : Answer) (bodies : List Held) (h : Mirrors st.parts bodies) (unmade : times (length st.parts.objects) st.parts.finalised ≡ 0) (undropped : times (length st.parts.objects) st.parts.dropped ≡ 0) where
  abbrev binds_it : Origin → Step
  binds_it origin = bind_step (variable t d v) st.parts (record { answer = a; origin = origin })

  found_is : (origin : Origin) → found_in bodies origin ≡ found st.parts origin
  found_is nowhere = refl
  found_is (fresh ob) = ap (λ (n : ℕ). Some n) (count-mirrors st.parts bodies h)
  found_is (there o) = ap (λ (b : Bool). cond b (Some o) None) (h.live o)

  no_slots : (n : ℕ) (origin : Origin) → MakesEmpty origin → new_slots n origin ≡ []
  no_slots n nowhere e = refl
  no_slots n (fresh ob) e = ap (map (held_by (slot n))) e
  no_slots n (there o) e = refl

  bind_gains : (origin : Origin) → MakesEmpty origin
      → gained_by (binds_it origin).flow ≡ present (found st.parts origin ∷ None ∷ [])
  bind_gains origin e =
      ap (λ (rs : List Reference). map (λ (r : Reference). r.object) (held_if (variable t d v) (found st.parts origin) ++ rs)) (no_slots (length st.parts.objects) origin e)
      ∙ by (found st.parts origin)
    where
      by : (o : Option ℕ)
          → map (λ (r : Reference). r.object) (held_if (variable t d v) o ++ []) ≡ present (o ∷ None ∷ [])
      by None = refl
      by (Some o) = refl

  pub bind_mirrors : (origin : Origin)
      → Mirrors (record (binds_it origin).parts { finalised = step_finals (binds_it origin) st ++ (binds_it origin).parts.finalised }) (bodies ++ bodies_from origin)
  bind_mirrors nowhere =
      mirrors_by _ (bodies ++ []) (mirrored_same st.parts.finalised st.parts.dropped st.parts.objects (st.parts.objects ++ []) bodies (bodies ++ []) (append_none st.parts.objects) (append_none bodies) (mirrored st.parts bodies h))
  bind_mirrors (fresh ob) =
      mirrors_by _ (bodies ++ live ob ∷ []) (mirrored_made st.parts.objects st.parts.finalised st.parts.dropped bodies ob (mirrored st.parts bodies h) unmade undropped)
  bind_mirrors (there o) =
      mirrors_by _ (bodies ++ []) (mirrored_same st.parts.finalised st.parts.dropped st.parts.objects (st.parts.objects ++ []) bodies (bodies ++ []) (append_none st.parts.objects) (append_none bodies) (mirrored st.parts bodies h))

  bind_parcels : (origin : Origin) → MakesEmpty origin → (u k : ℕ)
      → first_held (parcel u k) (flowed (binds_it origin).flow st.edges) ≡ first_held (parcel u k) st.edges
  bind_parcels origin e u k =
      ap (λ (rs : List Reference). first_held (parcel u k) (flowed (grows (held_if (variable t d v) (found st.parts origin) ++ rs) []) st.edges)) (no_slots (length st.parts.objects) origin e)
      ∙ by (found st.parts origin)
    where
      by : (o : Option ℕ)
          → first_held (parcel u k) (flowed (grows (held_if (variable t d v) o ++ []) []) st.edges) ≡ first_held (parcel u k) st.edges
      by None = refl
      by (Some o) = refl

-- ---- a statement that binds a variable

may_make : (origin : Origin) (making : Bool) (bodies : List Held) (room : ℕ) → MakesOnly making origin → 0 < room
    → (making ≡ true → length bodies < 65536) → MayMake origin bodies room
may_make nowhere making bodies room only some few = tt
may_make (fresh ob) true bodies room only some few = (some, few refl)
may_make (fresh ob) false bodies room only some few = absurd only
may_make (there o) making bodies room only some few = tt

-- the next object is not finalised, and gave up nothing
pub unmade_next : (s : Script) (es : List Entry) → IsLegal s es
    → times (length (After s es).parts.objects) (After s es).parts.finalised ≡ 0
unmade_next s es legal =
    none_of (times (length (After s es).parts.objects) (After s es).parts.finalised) ((few_of_legal s es legal).made (length (After s es).parts.objects))
  where
    none_of : (n : ℕ) → (0 < n → length (After s es).parts.objects < length (After s es).parts.objects) → n ≡ 0
    none_of zero h = refl
    none_of (suc n) h = absurd (omega (arith, h (omega arith)))

pub undropped_next : (s : Script) (es : List Entry) → IsLegal s es
    → times (length (After s es).parts.objects) (After s es).parts.dropped ≡ 0
undropped_next s es legal =
    (kept_steady s es legal).steady.undropped (length (After s es).parts.objects) (unmade_next s es legal)

module _ (g : Inside) (t : ℕ) (a : Action) (inv : IsGround g) (acts : MayAct (view_of g) t a) (binding : IsBinding (view_of g) t) where
  abbrev script : Script
  script = g.script

  abbrev now : State
  now = After g.script g.journal.items

  abbrev said : Statement
  said = binding.statement

  abbrev uses : List (Option ℕ)
  uses = used_in (view_of g) t said

  abbrev its_deed : Deed
  its_deed = deed_in script now said uses

  abbrev depth : ℕ
  depth = depth_of (frames_at t now)

  abbrev bound : Step
  bound = bind_step (variable t depth binding.var) now.parts (record { answer = its_deed.answer; origin = its_deed.origin })

  keeps_said : KeepsLoops script t now g.loops
  keeps_said =
      keeps_loops script t now (owned_fits script inv.script.owned) (sound script g.journal.items inv.script.owned) inv.script.stage g.loops inv.follows.has_loops

  binds_is : step_of script t now (frames_at t now) (does (says said)) ≡ bound
  binds_is =
      ap (statement_step script t depth now said uses) binding.binds
      ∙ ap (λ (m : Option Made). bind_step (variable t depth binding.var) now.parts (bound_if script now.parts said uses m)) binding.itemless

  fits : Fits (ownership_of said) (makes_object said) (numbered now.parts.objects (used_at uses 1))
      (numbered now.parts.objects (used_at uses 2)) its_deed
  fits = form_fits script.classes said (numbered now.parts.objects (used_at uses 0)) (numbered now.parts.objects (used_at uses 1)) (numbered now.parts.objects (used_at uses 2))

  unmade : times (length now.parts.objects) now.parts.finalised ≡ 0
  unmade = unmade_next script g.journal.items inv.legal

  undropped : times (length now.parts.objects) now.parts.dropped ≡ 0
  undropped = undropped_next script g.journal.items inv.legal

  change_is : its_deed.change ≡ unchanged
  change_is = no_change (ownership_of said) binding.binds fits.changes
    where
      no_change : (o : Ownership) → o ≡ Binds binding.var → ChangesFor o its_deed.change → its_deed.change ≡ unchanged
      no_change o e h = subst (λ (w : Ownership). ChangesFor w its_deed.change) e h

  -- the bodies are as they were before what is found
  bodies_are : (bodies : List Held)
      → IfSome g.store.ready (λ (r : Ready). bodies ≡ bodies_changed r.object r.deed.change g.store.bodies)
      → bodies ≡ g.store.bodies
  bodies_are bodies h =
      if_some g.store.ready (deed_of script now said uses) _ binding.ready h
      ∙ ap (λ (c : Change). bodies_changed (first_of uses) c g.store.bodies) change_is ∙ bodies_unchanged (first_of uses) g.store.bodies

  module _ (e : Edited) (bodies : List Held) (told : IfSome g.store.ready (λ (r : Ready). applies.IsDeed r.deed e)) (kept : IfSome g.store.ready (λ (r : Ready). bodies ≡ bodies_changed r.object r.deed.change g.store.bodies)) where
    is : applies.IsDeed its_deed e
    is = if_some g.store.ready (deed_of script now said uses) _ binding.ready told

    pub bound_new : applies.IsNew e.origin
    bound_new = is.new

    pub bound_room : (room : ℕ) → room ≡ g.store.room → MayMake (origin_of e.origin) bodies room
    bound_room room same =
        subst (λ (o : Origin). MayMake o bodies room) (sym is.origin)
        (may_make its_deed.origin (makes_object said) bodies room fits.only (omega (arith, same, binding.room))
        (λ made. omega (arith, ap length (bodies_are bodies kept), count-mirrors now.parts g.store.bodies inv.follows.mirrors, acts.few (ap makes_line binding.demands ∙ made))))

    pub bound_follows : (after : List Held) → after ≡ bodies ++ bodies_from (origin_of e.origin)
        → Follows script (done_by script t now (does (says said))) after g.parcels g.flags.items g.time g.loops
    bound_follows after grown =
        let old = inv.follows in
        let same : after ≡ g.store.bodies ++ bodies_from its_deed.origin = grown ∙ ap (λ (bs : List Held). bs ++ bodies_from (origin_of e.origin)) (bodies_are bodies kept) ∙ ap (λ (o : Origin). g.store.bodies ++ bodies_from o) is.origin in
        follows_step script t now (does (says said)) bound after g.parcels g.flags.items g.time g.loops binds_is
        (subst (Mirrors _) (sym same) (bind_mirrors t depth binding.var now its_deed.answer g.store.bodies old.mirrors unmade undropped its_deed.origin))
        old.parcels_are.has
        (λ u k. old.parcels_are.at u k ∙ sym (bind_parcels t depth binding.var now its_deed.answer g.store.bodies old.mirrors unmade undropped its_deed.origin fits.makes u k))
        old.flags_are old.time_is (keeps_said (does (says said)) binding.demands (binds_leave said binding.var binding.binds))

    object_is : (object : Option ℕ) → object ≡ found_in bodies (origin_of e.origin)
        → object ≡ found now.parts its_deed.origin
    object_is object h =
        h ∙ ap (λ (bs : List Held). found_in bs (origin_of e.origin)) (bodies_are bodies kept) ∙ ap (found_in g.store.bodies) is.origin
        ∙ found_is t depth binding.var now its_deed.answer g.store.bodies inv.follows.mirrors unmade undropped its_deed.origin

    pub bound_entry : (object : Option ℕ) (answer : Answer) → object ≡ found_in bodies (origin_of e.origin)
        → answer ≡ object_answer object e.answer
        → ◌≡◌ {A = Entry} (record { thread = t; action = a; answer = answer }) (entry_of script t now a)
    bound_entry object answer h q =
        let told_is : answer ≡ answer_if script t now (demanded script now t) =
        q ∙ ap (object_answer object) is.answer ∙ ap (λ (o : Option ℕ). object_answer o its_deed.answer) (object_is object h) ∙ ap (λ (y : Step). step_answer y now) (sym binds_is) ∙ ap (answer_if script t now) (sym binding.demands) in
        ap (λ (y : Answer). record { thread = t; action = a; answer = y }) told_is

    pub bound_gained : (object : Option ℕ) → object ≡ found_in bodies (origin_of e.origin)
        → present (object ∷ None ∷ []) ≡ gained_in (view_of g) t
    bound_gained object h =
        ap (λ (o : Option ℕ). present (o ∷ None ∷ [])) (object_is object h)
        ∙ sym (bind_gains t depth binding.var now its_deed.answer g.store.bodies inv.follows.mirrors unmade undropped its_deed.origin fits.makes)
        ∙ ap (λ (y : Step). gained_by y.flow) (sym binds_is)
        ∙ ap (λ (d : Option Demand). gained_by (flow_if script t now d)) (sym binding.demands)
