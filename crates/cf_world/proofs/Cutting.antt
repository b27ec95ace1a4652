-- What entries tell that take a reference to an object away: the reference is there, the object is live, and it is
-- finalised if none is left.
use Rattle.std.proofs.Common.{◌≡◌, ℕ, zero, suc, ◌+◌, ◌<◌, ◌∙◌, Bool, true, false, cond, ◌&&◌, List, [], ◌∷◌, ◌++◌, length, Option, Some, None, eqb, ltb, refl, sym, ap, subst, arith}
use Rattle.std.specs.Prelude.{◌==◌, slice_get}
use Rattle.std.proofs.lemmas.Bool.{eq-eqb, ltb-true}
use Rattle.std.proofs.lemmas.Bool.Decides.{nat_tests}
use Rattle.cf_ids.specs.declared.answer.Answer.{Answer}
use Rattle.cf_ids.specs.declared.answer.Answer.TheVariants as answers
use Rattle.cf_ids.specs.declared.answer.Ended.{Ended}
use Rattle.cf_ids.specs.declared.answer.Ended.TheVariants.{More, Last}
use Rattle.rl_modes.specs.Loops.{Loop}
use Rattle.cf_syntax.specs.declared.script.Script.{Script}
use Rattle.cf_syntax.specs.declared.statement.Statement.{Statement}
use Rattle.cf_syntax.specs.declared.statement.Statement.TheVariants as forms
use Rattle.cf_syntax.specs.declared.mention.Ownership.TheVariants.{Releases}
use Rattle.cf_syntax.specs.Mentions.{ownership_of, first_of}
use Rattle.cf_syntax.specs.BlockLines.{says}
use Rattle.cf_syntax.specs.Owned.{FitsByBlock}
use Rattle.cf_graph.specs.Owners.{is_thread}
use Rattle.cf_graph.specs.Holders.{Holder, variable, callout, owed, parcel, slot, in_mode, in_common, owner_of}
use Rattle.cf_graph.specs.Edges.{Reference, held_by, has, weigh, counted, degree, from_thread}
use Rattle.cf_graph.specs.Flows.{Flow, shrinks, flowed, IsThere}
use Rattle.cf_graph.proofs.Flows.{degree-flow}
use Rattle.cf_contents.specs.Contents.{times}
use Rattle.cf_contents.specs.Stores.{Held, with_body, body_finalised, body_dropped, is_live_in, left_in}
use Rattle.cf_next.specs.Demands.{Demand, does, owes, drops}
use Rattle.cf_next.specs.Next.{used_objects}
use Rattle.cf_model.specs.State.{State, Parts, stand_at}
use Rattle.cf_model.specs.Known.{facts_of}
use Rattle.cf_model.specs.Own.{first_from, own_reference}
use Rattle.cf_model.specs.Steps.{Step, flowing, cut_flow, cut_step, release_step, step_of, type_in, frames_at, bindings_of, depth_of, demanded}
use Rattle.cf_model.specs.Journals.{MayTake, MayUseAll, takes, uses_if}
use Rattle.cf_model.proofs.Acting.{site_used}
use Rattle.cf_model.proofs.Balance.{live_there, live_test}
use Rattle.cf_model.proofs.Dropping.{slot_parts, left_here, slot_there, drop_fits, demand_slot}
use Rattle.cf_model.proofs.FirstHeld.{NoParcel, parcel_other, first_without}
use Rattle.cf_model.proofs.Fitting.{cut_fits}
use Rattle.cf_model.proofs.Legal.{live_of_test}
use Rattle.cf_model.proofs.OwnLaws.{IsOf, OwnIs, own_is}
use Rattle.cf_model.proofs.Using.{IsSound, demand_may}
use Rattle.cf_scene.specs.declared.flags.Flags.{Flags}
use Rattle.cf_world.specs.Worlds.{ended_at}
use Rattle.cf_world.specs.Grounds.{Mirrors, Follows}
use Rattle.cf_world.specs.Entering.{answer_of_cut, finalised_if}
use Rattle.cf_loops.specs.Following.{DemandLeavesLoops}
use Rattle.cf_world.proofs.Passing.{KeepsLoops, releases_leave}
use Rattle.cf_world.proofs.Counting.{Enters, enters_by, statement_is}
use Rattle.cf_world.proofs.Growing.{follows_step}
use Rattle.cf_scene.proofs.Mirroring.{mirrored, mirrors_by, left-mirrors, live-body, mirrored_finalised, mirrored_dropped}

-- ---- what is left

last_if : (n : ℕ) (b : Bool) → (n == 0) ≡ b → (n + 1 == 1) ≡ b
last_if zero b e = e
last_if (suc n) true e = grind (arith, nat_tests)
last_if (suc n) false e = grind (arith, nat_tests)

-- an end and a test of what is left say the same
module _ (o n before : ℕ) (less : n + 1 ≡ before) where
  end_is : (b : Bool) → (n == 0) ≡ b → ended_at before ≡ cond b Last More
  end_is b e = ap (λ (c : Bool). cond c Last More) (ap (λ (k : ℕ). k == 1) (sym less) ∙ last_if n b e)

  answers_if : (class : ℕ) (b : Bool) → (n == 0) ≡ b
      → cond b (answers.Final class) answers.More ≡ answer_of_cut (ended_at before) class
  answers_if class true e = ap (λ (d : Ended). answer_of_cut d class) (sym (end_is true e))
  answers_if class false e = ap (λ (d : Ended). answer_of_cut d class) (sym (end_is false e))

  pub cut_answers : (class : ℕ)
      → cond (n == 0) (answers.Final class) answers.More ≡ answer_of_cut (ended_at before) class
  cut_answers class = answers_if class (n == 0) refl

  mirrors_if : (p : Parts) (bodies : List Held) (b : Bool) → (n == 0) ≡ b → o < length p.objects → Mirrors p bodies
      → Mirrors (record p { finalised = cond b (o ∷ []) [] ++ p.finalised }) (finalised_if (ended_at before) o bodies)
  mirrors_if p bodies true e made h =
      subst (λ (d : Ended). Mirrors (record p { finalised = o ∷ p.finalised }) (finalised_if d o bodies)) (sym (end_is true e)) (mirrors_by (record p { finalised = o ∷ p.finalised }) (with_body body_finalised o bodies) (mirrored_finalised p.objects p.finalised p.dropped bodies o (mirrored p bodies h) made))
  mirrors_if p bodies false e made h =
      subst (λ (d : Ended). Mirrors (record p { finalised = p.finalised }) (finalised_if d o bodies)) (sym (end_is false e))
      (record { objects_are = h.objects_are; live = h.live; given_up = h.given_up })

  pub cut_mirrors : (p : Parts) (bodies : List Held) → o < length p.objects → Mirrors p bodies
      → Mirrors (record p { finalised = cond (n == 0) (o ∷ []) [] ++ p.finalised }) (finalised_if (ended_at before) o bodies)
  cut_mirrors p bodies made h = mirrors_if p bodies (n == 0) refl made h

-- ---- the reference that is taken

first_none : (t o : ℕ) (es : List Reference) → first_from t o es ≡ None → weigh (from_thread t o) es ≡ 0
first_none t o [] e = refl
first_none t o (r ∷ rs) e = by ((eqb r.object o) && is_thread t (owner_of r.holder)) refl e (first_none t o rs)
  where
    by : (b : Bool) → ((eqb r.object o) && is_thread t (owner_of r.holder)) ≡ b
        → cond b (Some r) (first_from t o rs) ≡ None
        → (first_from t o rs ≡ None → weigh (from_thread t o) rs ≡ 0) → weigh (from_thread t o) (r ∷ rs) ≡ 0
    by true test e rest = absurd cc
    by false test e rest = let none : from_thread t o r ≡ 0 = ap counted test in omega (arith, none, rest e)

-- a thread that has references to an object has one that is taken
pub own_some : (t : ℕ) (h : Holder) (o : ℕ) (es : List Reference) → 0 < weigh (from_thread t o) es
    → (r : Reference) × (own_reference t h o es ≡ Some r)
own_some t h o es some = by (has h o es)
  where
    by_first : (q : Option Reference) → first_from t o es ≡ q → (r : Reference) × (first_from t o es ≡ Some r)
    by_first None e = absurd (omega (arith, some, first_none t o es e))
    by_first (Some r) e = (r, e)

    by : (b : Bool) → (r : Reference) × (cond b (Some (held_by h o)) (first_from t o es) ≡ Some r)
    by true = (held_by h o, refl)
    by false = by_first (first_from t o es) refl

pub no_parcel : (t : ℕ) (k : Holder) → IsOf t k → NoParcel k
no_parcel t (variable u d v) e = tt
no_parcel t (callout u d) e = tt
no_parcel t (owed u) e = tt
no_parcel t (parcel u m) e = absurd cc
no_parcel t (slot b) e = tt
no_parcel t (in_mode u m) e = tt
no_parcel t (in_common u) e = tt

-- the reference, by the step that takes it
pub record Taken (t o : ℕ) (st : State) (step : Step) : Type 0 where
  pub holder : Holder
  pub no_place : NoParcel holder
  pub flow : step.flow ≡ shrinks (held_by holder o)
  pub there : IsThere (shrinks (held_by holder o)) st.edges

pub cut_taken : (t : ℕ) (h : Holder) (st : State) (o : ℕ) → IsOf t h → MayTake st t o → Taken t o st (cut_step t h st o)
cut_taken t h st o of may =
    let found = own_some t h o st.edges may.edge in
    let own : OwnIs t o st.edges found.0 = own_is t h o st.edges found.0 of found.1 in
    let is : own_reference t h o st.edges ≡ Some (held_by found.0.holder o) = found.1 ∙ ap (λ (n : ℕ). Some (held_by found.0.holder n)) own.object in
    record {
      holder = found.0.holder;
      no_place = no_parcel t found.0.holder own.thread;
      flow = ap cut_flow is;
      there = subst (λ (f : Flow). IsThere f st.edges) (ap cut_flow is) (cut_fits t h st o of).there;
    }

-- ---- what a step leaves that takes one

module _ (s : Script) (t : ℕ) (st : State) (bodies : List Held) (rows : List (List (Option ℕ))) (flags : List Flags) (time : ℕ) (loops : List Loop) (h : Follows s st bodies rows flags time loops) (keeps : KeepsLoops s t st loops) where
  -- a step that takes a reference away, and what else of the parts it changes
  abbrev shrinking : Flow → Parts → Step
  shrinking f p = record { answer = answers.Ok; flow = f; parts = p; list = []; stops = None }

  abbrev ended : ℕ → Ended
  ended o = ended_at (degree o st.edges)

  abbrev told : ℕ → Answer
  told o = answer_of_cut (ended o) (type_in (slice_get st.parts.objects o))

  shrink_enters : (d : Demand) (p : Parts) (k : Holder) (o : ℕ) (bodies' : List Held) → demanded s st t ≡ Some d → DemandLeavesLoops d
      → step_of s t st (frames_at t st) d ≡ shrinking (shrinks (held_by k o)) p → NoParcel k → IsThere (shrinks (held_by k o)) st.edges
      → Mirrors p bodies' → p.flags ≡ st.parts.flags → p.time ≡ st.parts.time → o < length p.objects
      → Enters s t st (told o) [] (finalised_if (ended o) o bodies') rows flags time loops
  shrink_enters d p k o bodies' e leaves is none there mirrors same_flags same_time made =
      let f = shrinks (held_by k o) in
      let self : counted (eqb o o) ≡ 1 = ap counted (eq-eqb o o refl) in
      let less : degree o (flowed f st.edges) + 1 ≡ degree o st.edges = omega (arith, degree-flow o f st.edges there, self) in
      enters_by s t st d (shrinking f p) (told o) (finalised_if (ended o) o bodies') rows flags time loops e is
      (cut_answers o (degree o (flowed f st.edges)) (degree o st.edges) less (type_in (slice_get st.parts.objects o)))
      (follows_step s t st d (shrinking f p) (finalised_if (ended o) o bodies') rows flags time loops is
      (cut_mirrors o (degree o (flowed f st.edges)) (degree o st.edges) less p bodies' made mirrors)
      h.parcels_are.has
      (λ u m. h.parcels_are.at u m ∙ sym (first_without (parcel u m) (held_by k o) st.edges (parcel_other u m k none)))
      (h.flags_are ∙ sym same_flags) (h.time_is ∙ sym same_time) (keeps d e leaves))

  -- a release: the object is live, and what the entry tells
  pub record Cuts (o : ℕ) : Type 0 where
    pub live : is_live_in bodies o ≡ true
    pub made : o < length st.parts.objects
    pub enters : Enters s t st (told o) [] (finalised_if (ended o) o bodies) rows flags time loops

  cuts_by : (d : Demand) (k : Holder) (o : ℕ) → demanded s st t ≡ Some d → DemandLeavesLoops d
      → step_of s t st (frames_at t st) d ≡ cut_step t k st o → IsOf t k → MayTake st t o → Cuts o
  cuts_by d k o e leaves is of may =
      let taken = cut_taken t k st o of may in
      let made : o < length st.parts.objects = (live_of_test st o may.live).1 in
      record {
        live = h.mirrors.live o ∙ may.live;
        made = made;
        enters = shrink_enters d st.parts taken.holder o bodies e leaves (is ∙ ap (λ (f : Flow). flowing st answers.Ok f) taken.flow) taken.no_place taken.there h.mirrors refl refl made;
      }

  release_form : (x : Statement) (v : ℕ) → ownership_of x ≡ Releases v → x ≡ forms.Release v
  release_form (forms.Release w) v e = let same : w ≡ v = cc in ap forms.Release same
  release_form _ v e = absurd cc

  module _ (own : FitsByBlock s) (is_sound : IsSound s st) where
    pub owed_cuts : (o : ℕ) → demanded s st t ≡ Some (owes o) → Cuts o
    owed_cuts o e = cuts_by (owes o) (owed t) o e tt refl (eq-eqb t t refl) (demand_may s t st is_sound own (owes o) e).0

    release_may : (v o : ℕ) → demanded s st t ≡ Some (does (says (forms.Release v)))
        → first_of (used_objects (bindings_of (frames_at t st)) (says (forms.Release v))) ≡ Some o → MayTake st t o
    release_may v o e object =
        (subst (λ (q : Option ℕ). MayUseAll st t [] (uses_if takes q)) (ap first_of (site_used s (frames_at t st) (says (forms.Release v))) ∙ object)
        (demand_may s t st is_sound own (does (says (forms.Release v))) e)).0

    pub release_cuts : (x : Statement) (v o : ℕ) → demanded s st t ≡ Some (does (says x)) → ownership_of x ≡ Releases v
        → first_of (used_objects (bindings_of (frames_at t st)) (says x)) ≡ Some o → Cuts o
    release_cuts x v o e w object =
        let is : x ≡ forms.Release v = release_form x v w in
        let may = release_may v o (e ∙ ap (λ (y : Statement). Some (does (says y))) is) (ap (λ (y : Statement). first_of (used_objects (bindings_of (frames_at t st)) (says y))) (sym is) ∙ object) in
        cuts_by (does (says x)) (variable t (depth_of (frames_at t st)) v) o e (releases_leave x v w)
        (statement_is s t st bodies rows flags time loops h keeps x (Releases v) w ∙ ap (release_step t (variable t (depth_of (frames_at t st)) v) st) object)
        (eq-eqb t t refl) may

    -- a slot that is given up
    pub record Drops (b o : ℕ) : Type 0 where
      pub finalised : is_live_in bodies b ≡ false
      pub first : slice_get (left_in bodies b) 0 ≡ Some o
      pub live : is_live_in (with_body body_dropped b bodies) o ≡ true
      pub made : o < length st.parts.objects
      pub enters : Enters s t st (told o) []
          (finalised_if (ended o) o (with_body body_dropped b bodies)) rows flags time loops

    pub drop_drops : (b k o : ℕ) → demanded s st t ≡ Some (drops b k o) → Drops b o
    drop_drops b k o e =
        let slot_is = demand_slot s (facts_of st) t (stand_at t st.stands) b k o e in
        let parts = slot_parts b k o st slot_is in
        let steady = is_sound.steady in
        let lives = live_there st (held_by (slot b) o) steady.balance (slot_there b k o st slot_is steady.slotted) in
        let made_body : b < length st.parts.objects = made_finalised b parts.0 in
        let fits = drop_fits b k o st slot_is t steady.slotted in
        let is_live_object : is_live_in bodies o ≡ true = h.mirrors.live o ∙ live_test st o lives in
        record {
          finalised = h.mirrors.live b ∙ not_live (ltb b (length st.parts.objects)) (times b st.parts.finalised) parts.0;
          first = ap (λ (os : List ℕ). slice_get os 0) (left-mirrors st.parts.objects st.parts.finalised st.parts.dropped bodies b (mirrored st.parts bodies h.mirrors) ∙ left_here b k o st slot_is);
          live = live-body body_dropped (λ x. refl) b o bodies ∙ is_live_object;
          made = lives.1;
          enters = shrink_enters (drops b k o) (record st.parts { dropped = b ∷ st.parts.dropped }) (slot b) o (with_body body_dropped b bodies) e tt refl tt fits.there
              (mirrors_by (record st.parts { dropped = b ∷ st.parts.dropped }) (with_body body_dropped b bodies) (mirrored_dropped st.parts.objects st.parts.finalised st.parts.dropped bodies b (mirrored st.parts bodies h.mirrors) made_body)) refl refl lives.1;
        }
      where
        not_live : (some : Bool) (n : ℕ) → 0 < n → (some && (n == 0)) ≡ false
        not_live true n lt = grind (arith, nat_tests)
        not_live false n lt = refl

        made_by : (n m : ℕ) (c : Bool) → n + m ≡ counted c → 0 < n → c ≡ true
        made_by n m true q lt = refl
        made_by n m false q lt = absurd (omega (arith, q, lt))

        made_finalised : (b : ℕ) → 0 < times b st.parts.finalised → b < length st.parts.objects
        made_finalised b some =
            ltb-true b (length st.parts.objects)
            (made_by (times b st.parts.finalised) (counted (ltb 0 (degree b st.edges))) (ltb b (length st.parts.objects)) (is_sound.steady.balance b) some)
