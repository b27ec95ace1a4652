-- Each legal entry keeps what holds along legal journals.
use Rattle.std.proofs.Common.{◌≡◌, ℕ, zero, suc, ◌+◌, ◌<◌, Bool, true, false, cond, List, [], ◌∷◌, ◌++◌, length, drop, map, Option, Some, None, eqb, refl, sym, ap, subst, arith, inl, inr, append-nil, length-append}
use Rattle.std.specs.Prelude.{slice_get}
use Rattle.std.proofs.lemmas.Bool.{eq-eqb}
use Rattle.std.proofs.lemmas.Bool.Decides.{eqb_tells}
use Rattle.cf_ids.specs.declared.answer.Answer.{Answer}
use Rattle.cf_ids.specs.declared.answer.Answer.TheVariants as answers
use Rattle.rl_turn.specs.declared.phases.Phase.{Phase}
use Rattle.cf_syntax.specs.declared.script.Script.{Script}
use Rattle.cf_syntax.specs.declared.statement.Statement.{Statement}
use Rattle.cf_syntax.specs.declared.mention.Ownership.{Ownership}
use Rattle.cf_syntax.specs.declared.mention.Ownership.TheVariants.{Keeps, Binds, Retains, Releases}
use Rattle.cf_syntax.specs.Mentions.{used_at, first_of}
use Rattle.cf_contents.specs.Items.{class_of}
use Rattle.cf_contents.specs.Contents.{Object, item_content, times, slots_in, slots_at}
use Rattle.cf_contents.specs.Deeds.{Origin, nowhere, fresh, there, deed_at}
use Rattle.cf_contents.specs.Keys.{numbered}
use Rattle.cf_contents.proofs.SlotLaws.{MakesEmpty}
use Rattle.cf_contents.proofs.FormLaws.{form_fits}
use Rattle.cf_graph.specs.Holders.{code_of, Holder, variable, slot}
use Rattle.cf_graph.specs.Edges.{held_by, held_if, weigh, one, counted, degree}
use Rattle.cf_graph.specs.Flows.{grows}
use Rattle.cf_graph.proofs.Flows.{AllOwn, other_weigh, holders_apart, one_own}
use Rattle.cf_next.specs.Facts.{Callout}
use Rattle.cf_next.specs.Stands.{Callee, item_of, Kind, of_block, of_handler, of_run}
use Rattle.cf_model.proofs.Phases.{phase_case}
use Rattle.cf_model.specs.State.{until, awake, Sleeping, Parts, State, left_of, is_live}
use Rattle.cf_model.specs.Things.{Thing, thing_at}
use Rattle.cf_model.specs.Deals.{Deal, okay, deal_of, posts_of}
use Rattle.cf_model.specs.Steps.{with_sleep, sleeping, fired, deal_step, start_all, Made, item_made, bound_if, bound_of, found, bind_step, statement_step, packed_holder, end_step, spend_if, fire, fire_if, call_step, call_references, phase_step, close_step}
use Rattle.cf_model.proofs.Balance.{IsLive}
use Rattle.cf_model.proofs.Legal.{live_of_test}
use Rattle.cf_model.proofs.OwnLaws.{IsOf, AllOf}
use Rattle.cf_model.proofs.Places.{kinds_apart, held_objects}
use Rattle.cf_model.proofs.DealLaws.{FitsDeal, SameBodies, same_bodies, quiet_fits, item_bodies, flags_bodies, invalidate_fits}
use Rattle.cf_model.proofs.Fitting.{StepFits, still_fits, idle_fits, deal_fits, release_fits, retain_fits, gains_fit, call_of, call_leads}
use Rattle.cf_model.proofs.Steady.{IsSteady, unmade_whole}
use Rattle.cf_model.proofs.Taking.{deal_of_fits}

-- ---- what is bound

-- the slots of bodies where one more is made
slots_made : (objects : List Object) (ob : Object) (b : ℕ) → (b ≡ length objects → ⊥)
    → slots_at (slice_get (objects ++ ob ∷ []) b) ≡ slots_at (slice_get objects b)
slots_made [] ob zero h = absurd (h refl)
slots_made [] ob (suc b) h = refl
slots_made (o ∷ os) ob zero h = refl
slots_made (o ∷ os) ob (suc b) h = slots_made os ob b (λ e. h (ap suc e))

slots_new : (objects : List Object) (ob : Object)
    → slots_at (slice_get (objects ++ ob ∷ []) (length objects)) ≡ slots_in ob.content
slots_new [] ob = refl
slots_new (o ∷ os) ob = slots_new os ob

slots_past : (objects : List Object) → slots_at (slice_get objects (length objects)) ≡ []
slots_past [] = refl
slots_past (o ∷ os) = slots_past os

own_objects : (k : Holder) (o : ℕ) (xs : List ℕ) → weigh (one (held_by k o)) (map (held_by k) xs) ≡ times o xs
own_objects k o [] = refl
own_objects k o (x ∷ xs) = omega (arith, one_own k o x, own_objects k o xs)

slots_own : (t n : ℕ) (xs : List ℕ) → AllOwn t (map (held_by (slot n)) xs)
slots_own t n [] = tt
slots_own t n (x ∷ xs) = (tt, slots_own t n xs)

module _ (s : Script) (t d v : ℕ) (st : State) (h : IsSteady st) where
  abbrev n : ℕ
  n = length st.parts.objects

  abbrev k : Holder
  k = variable t d v

  -- a new object, with what it holds
  fresh_fits : (answer : Answer) (ob : Object) → ((o : ℕ) → 0 < times o (slots_in ob.content) → IsLive st o)
      → StepFits t st (bind_step k st.parts (record { answer = answer; origin = fresh ob }))
  fresh_fits answer ob live = record {
    own = ((refl, slots_own t n (slots_in ob.content)), tt);
    there = λ r. omega arith;
    finalised = refl;
    undropped = λ a z. refl;
    flow = record {
      live = λ o some. elim (eqb_tells n o) [
        | inl e ↦ inr (sym e.1, length-append st.parts.objects (ob ∷ []))
        | inr e ↦ inl (live o (let none : counted (eqb n o) ≡ 0 = ap counted e.0 in omega (arith, some, held_objects (slot n) o (slots_in ob.content))))
      ];
      new = λ e. let some : counted (eqb n n) ≡ 1 = ap counted (eq-eqb n n refl) in omega arith;
      sizes = inr (length-append st.parts.objects (ob ∷ []));
    };
    slots = λ b o. elim (eqb_tells b n) [
      | inl e ↦ subst (λ (m : ℕ). times o (left_of (st.parts.objects ++ ob ∷ []) st.parts.dropped m) + 0 ≡ times o (left_of st.parts.objects st.parts.dropped m) + (weigh (one (held_by (slot m) o)) (held_by k n ∷ map (held_by (slot n)) (slots_in ob.content)) + 0)) (sym e.1)
          (rw (unmade_whole st h, slots_new st.parts.objects ob, slots_past st.parts.objects)
          (omega (arith, own_objects (slot n) o (slots_in ob.content), holders_apart (held_by (slot n) o) (held_by k n) (kinds_apart (slot n) k refl))))
      | inr e ↦
          let other : slot b ≡ slot n → ⊥ = λ q. e.1 (ap (λ c. (code_of c).first) q) in
          rw (slots_made st.parts.objects ob b e.1)
          (omega (arith, other_weigh (held_by (slot b) o) (slot n) (slots_in ob.content) other, holders_apart (held_by (slot b) o) (held_by k n) (kinds_apart (slot b) k refl)))
    ];
  }

  -- nothing is made: what is bound is there, and live
  same_objects : (p : Parts) → p ≡ record st.parts { objects = st.parts.objects ++ [] } → SameBodies st p
  same_objects p e = subst (SameBodies st) (sym e) (record {
    shape = record { finalised = refl; size = ap length (append-nil st.parts.objects); dropped = refl };
    left = λ b. ap (λ obs. drop (times b st.parts.dropped) (slots_at (slice_get obs b))) (append-nil st.parts.objects);
  })

  held_of : (object : Option ℕ) → AllOf t (held_if k object)
  held_of None = tt
  held_of (Some o) = (eq-eqb t t refl, tt)

  lead_of : (object : Option ℕ) (o : ℕ) → 0 < degree o (held_if k object) → object ≡ Some o
  lead_of None o some = absurd (omega arith)
  lead_of (Some x) o some = elim (eqb_tells x o) [
    | inl e ↦ ap (λ (m : ℕ). Some m) e.1
    | inr e ↦ absurd (let none : counted (eqb x o) ≡ 0 = ap counted e.0 in omega arith)
  ]

  found_live : (x : ℕ) (b : Bool) → is_live st.parts x ≡ b → (o : ℕ) → cond b (Some x) None ≡ Some o → IsLive st o
  found_live x true e o q = let same : x ≡ o = cc in subst (IsLive st) same (live_of_test st x e)
  found_live x false e o q = absurd cc

  bound_fits : (answer : Answer) (origin : Origin)
      → ((ob : Object) → origin ≡ fresh ob → (o : ℕ) → 0 < times o (slots_in ob.content) → IsLive st o)
      → StepFits t st (bind_step k st.parts (record { answer = answer; origin = origin }))
  bound_fits answer nowhere live = still_fits t st _ (same_objects _ refl) refl
  bound_fits answer (fresh ob) live = fresh_fits answer ob (live ob refl)
  bound_fits answer (there x) live =
      let object = found st.parts (there x) in
      gains_fit t st _ (held_if k object) (same_objects _ refl) (ap (λ rs. grows rs []) (append-nil (held_if k object))) (held_of object)
      (λ o some. found_live x (is_live st.parts x) refl o (lead_of object o some))

-- what an item is made with is live where its info is
item_live : (st : State) (info : Option ℕ) (m : Made) → ((o : ℕ) → info ≡ Some o → IsLive st o) → (o : ℕ)
    → 0 < times o (slots_in (item_content m.handler info true m.item)) → IsLive st o
item_live st None m live o some = absurd (omega arith)
item_live st (Some x) m live o some = elim (eqb_tells x o) [
  | inl e ↦ live o (ap (λ (n : ℕ). Some n) e.1)
  | inr e ↦ absurd (let none : counted (eqb x o) ≡ 0 = ap counted e.0 in omega arith)
]

object_is : (a b : Object) → fresh a ≡ fresh b → a ≡ b
object_is a b e = cc

empty_live : (st : State) (origin : Origin) → MakesEmpty origin → (ob : Object) → origin ≡ fresh ob → (o : ℕ)
    → 0 < times o (slots_in ob.content) → IsLive st o
empty_live st origin empty ob e o some =
    let none : slots_in ob.content ≡ [] = subst MakesEmpty e empty in absurd (omega (arith, some, ap (times o) none))

pub bind_fits : (s : Script) (t d v : ℕ) (st : State) (x : Statement) (used : List (Option ℕ)) → IsSteady st
    → ((m : Made) → item_made x ≡ Some m → (o : ℕ) → first_of used ≡ Some o → IsLive st o)
    → StepFits t st (bind_step (variable t d v) st.parts (bound_of s st.parts x used))
bind_fits s t d v st x used h live = by (item_made x) refl
  where
    by : (made : Option Made) → item_made x ≡ made
        → StepFits t st (bind_step (variable t d v) st.parts (bound_if s st.parts x used made))
    by (Some m) e = fresh_fits s t d v st h answers.Skip (record { class = class_of m.item; content = item_content m.handler (first_of used) true m.item }) (item_live st (first_of used) m (live m e))
    by None e =
        let deed = deed_at s.classes st.parts.objects x used in
        let fits = form_fits s.classes x (numbered st.parts.objects (used_at used 0)) (numbered st.parts.objects (used_at used 1)) (numbered st.parts.objects (used_at used 2)) in
        bound_fits s t d v st h deed.answer deed.origin (empty_live st deed.origin fits.makes)

-- ---- lines

pub packed_is_own : (t d : ℕ) (v : Option ℕ) → IsOf t (packed_holder t d v)
packed_is_own t d None = eq-eqb t t refl
packed_is_own t d (Some v) = eq-eqb t t refl

-- what a statement uses is live where it has to be
abbrev pub LiveFor : State → Script → ℕ → Statement → List (Option ℕ) → Ownership → Type 0
LiveFor st s t x used Keeps = ((deal_of s t st x used).answer ≡ answers.Skip → ⊥) → (i o : ℕ) → used_at used i ≡ Some o → IsLive st o
LiveFor st s t x used (Binds v) = (m : Made) → item_made x ≡ Some m → (o : ℕ) → first_of used ≡ Some o → IsLive st o
LiveFor st s t x used (Retains v) = (o : ℕ) → first_of used ≡ Some o → IsLive st o
LiveFor st s t x used (Releases v) = Unit {0}

pub statement_fits : (s : Script) (t d : ℕ) (st : State) (x : Statement) (used : List (Option ℕ))
    (ownership : Ownership)
    → IsSteady st
    → LiveFor st s t x used ownership → StepFits t st (statement_step s t d st x used ownership)
statement_fits s t d st x used Keeps h live = deal_fits t st (deal_of s t st x used) (posts_of st.parts x used) (deal_of_fits s t st h x used live)
statement_fits s t d st x used (Binds v) h live = bind_fits s t d v st x used h live
statement_fits s t d st x used (Retains v) h live = retain_fits t (variable t d v) st (first_of used) (eq-eqb t t refl) live
statement_fits s t d st x used (Releases v) h live = release_fits t (variable t d v) st (first_of used) (eq-eqb t t refl)

-- ---- steps that no line writes

pub end_fits : (t : ℕ) (st : State) → StepFits t st (end_step t st)
end_fits t st = still_fits t st (end_step t st) (by (eqb t 0)) refl
  where
    by : (b : Bool) → SameBodies st (cond b (record st.parts { flags = start_all st.parts.flags }) st.parts)
    by true = flags_bodies st (start_all st.parts.flags)
    by false = same_bodies st

pub spend_fits : (s : Script) (t : ℕ) (st : State) (i : ℕ)
    → StepFits t st (deal_step t (spend_if s st i (thing_at st.parts i)) [])
spend_fits s t st i = deal_fits t st (spend_if s st i (thing_at st.parts i)) [] (by (thing_at st.parts i))
  where
    either : (b : Bool) (x y : Deal) → FitsDeal st x → FitsDeal st y → FitsDeal st (cond b x y)
    either true x y h k = h
    either false x y h k = k

    by : (x : Option Thing) → FitsDeal st (spend_if s st i x)
    by None = quiet_fits st (okay st.parts) refl refl (same_bodies st)
    by (Some x) = either x.valid _ _ (invalidate_fits s st i x) (quiet_fits st (okay st.parts) refl refl (same_bodies st))

pub fired_bodies : (st : State) (item : Option ℕ) → SameBodies st (fire_if st.parts item)
fired_bodies st None = same_bodies st
fired_bodies st (Some i) = by (thing_at st.parts i)
  where
    by : (x : Option Thing) → SameBodies st (fire st.parts i x)
    by None = same_bodies st
    by (Some x) = item_bodies st i x.valid (fired st.parts.time x.item)

pub call_fits : (t d : ℕ) (st : State) (kind : Kind) (k : Callee) (c : Callout)
    → ((o : ℕ) → c.info ≡ Some o → IsLive st o) → ((o : ℕ) → item_of k ≡ Some o → IsLive st o)
    → StepFits t st (call_step t d st kind k c)
call_fits t d st kind k c live_info live_item =
    gains_fit t st (call_step t d st kind k c) (call_references t d c.info (item_of k)) (fired_bodies st (item_of k)) refl (call_of t d c.info (item_of k))
    (call_leads st t d c.info (item_of k) live_info live_item)

sleeper_fits : (t : ℕ) (st : State) (answer : Answer) (sleep : Sleeping) → StepFits t st (sleeping st t answer sleep)
sleeper_fits t st answer sleep = still_fits t st _ (flags_bodies st (with_sleep st.parts t sleep).flags) refl

pub phase_fits : (t : ℕ) (st : State) (p : Phase) (kind : Kind) → StepFits t st (phase_step st t p kind)
phase_fits t st p kind = phase_case (StepFits t st) st t p kind (record { woken = sleeper_fits t st answers.Woken awake; due = idle_fits t st answers.Due; sleeps = λ d. sleeper_fits t st (answers.Asleep d) (until d); tests = λ r. idle_fits t st _; collects = λ l. still_fits t st _ (same_bodies st) refl })

pub close_fits : (t : ℕ) (st : State) (kind : Kind) → StepFits t st (close_step st kind)
close_fits t st of_block = idle_fits t st _
close_fits t st (of_handler k) = idle_fits t st _
close_fits t st (of_run r) = idle_fits t st _
