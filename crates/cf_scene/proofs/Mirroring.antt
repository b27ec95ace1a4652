-- Bodies that mirror a state still do after each kind of step.
use Rattle.std.proofs.Common.{◌≡◌, ℕ, zero, suc, ◌+◌, ◌<◌, ◌≤◌, true, false, ◌&&◌, not, List, [], ◌∷◌, ◌++◌, length, drop, Option, Some, None, eqb, ltb, ◌==◌, refl, sym, ap, ◌∙◌, subst, arith, inl, inr, length-append}
use Rattle.std.specs.Prelude.{slice_get}
use Rattle.std.specs.Option.{option_map}
use Rattle.std.proofs.lemmas.Bool.{eq-eqb, cases_lt}
use Rattle.std.proofs.lemmas.Bool.Decides.{nat_tests, eqb_tells}
use Rattle.cf_graph.specs.Edges.{counted}
use Rattle.cf_contents.specs.Contents.{Object, times, slots_in, slots_at}
use Rattle.cf_contents.specs.Deeds.{Change, unchanged, objects_after}
use Rattle.cf_contents.specs.Stores.{Held, objects_of, live, with_body, body_changed, body_finalised, body_dropped, bodies_changed, is_live_body, is_live_in, given_up_by, given_up_in, left_to, left_in}
use Rattle.cf_contents.proofs.BodyLaws.{get-map, get-own, get-other, length-objects, objects-changed, objects-kept, objects-append}
use Rattle.cf_contents.proofs.ContentLaws.{length-objects_after}
use Rattle.cf_model.specs.State.{Parts, left_of}
use Rattle.cf_scene.specs.Scenes.{Mirrors}

-- bodies mirror the objects that were made, those that are finalised, and the bodies of the slots that were given up
pub record AreMirrored (objects : List Object) (finalised dropped : List ℕ) (bodies : List Held) : Type 0 where
  pub objects_are : objects_of bodies ≡ objects
  pub lives : (o : ℕ) → is_live_in bodies o ≡ (ltb o (length objects) && (times o finalised == 0))
  pub given_up : (o : ℕ) → given_up_in bodies o ≡ times o dropped

pub mirrored : (p : Parts) (bodies : List Held) → Mirrors p bodies → AreMirrored p.objects p.finalised p.dropped bodies
mirrored p bodies h = record { objects_are = h.objects_are; lives = h.live; given_up = h.given_up }

pub mirrors_by : (p : Parts) (bodies : List Held) → AreMirrored p.objects p.finalised p.dropped bodies
    → Mirrors p bodies
mirrors_by p bodies h = record { objects_are = h.objects_are; live = h.lives; given_up = h.given_up }

-- ---- the slots that are left

drop-none : (n : ℕ) → ◌≡◌ {A = List ℕ} (drop n []) []
drop-none zero = refl
drop-none (suc n) = refl

left_is : (bodies : List Held) (o : ℕ) (n : ℕ) (h : Option Held) → slice_get bodies o ≡ h → given_up_by h ≡ n
    → left_to h ≡ drop n (slots_at (option_map (λ (b : Held). b.object) h))
left_is bodies o n None e g = sym (drop-none n)
left_is bodies o n (Some h) e g = ap (λ (k : ℕ). drop k (slots_in h.object.content)) g

pub left-mirrors : (objects : List Object) (finalised dropped : List ℕ) (bodies : List Held) (o : ℕ)
    → AreMirrored objects finalised dropped bodies → left_in bodies o ≡ left_of objects dropped o
left-mirrors objects finalised dropped bodies o h =
    left_is bodies o (times o dropped) (slice_get bodies o) refl (h.given_up o)
    ∙ ap (λ (ob : Option Object). drop (times o dropped) (slots_at ob)) (sym (get-map bodies o) ∙ ap (λ (os : List Object). slice_get os o) h.objects_are)

-- ---- a change

live_same : (f : Held → Held) → ((h : Held) → (f h).is_finalised ≡ h.is_finalised) → (h : Option Held)
    → is_live_body (option_map f h) ≡ is_live_body h
live_same f same None = refl
live_same f same (Some h) = ap not (same h)

given_same : (f : Held → Held) → ((h : Held) → (f h).given_up ≡ h.given_up) → (h : Option Held)
    → given_up_by (option_map f h) ≡ given_up_by h
given_same f same None = refl
given_same f same (Some h) = same h

pub live-body : (f : Held → Held) → ((h : Held) → (f h).is_finalised ≡ h.is_finalised) → (o p : ℕ) (bodies : List Held)
    → is_live_in (with_body f o bodies) p ≡ is_live_in bodies p
live-body f same o p bodies = elim (eqb_tells o p) [
  | inl e ↦ subst (λ (k : ℕ). is_live_in (with_body f o bodies) k ≡ is_live_in bodies k) e.1 (ap is_live_body (get-own f o bodies) ∙ live_same f same (slice_get bodies o))
  | inr e ↦ ap is_live_body (get-other f o p bodies e.1)
]

given-body : (f : Held → Held) → ((h : Held) → (f h).given_up ≡ h.given_up) → (o p : ℕ) (bodies : List Held)
    → given_up_in (with_body f o bodies) p ≡ given_up_in bodies p
given-body f same o p bodies = elim (eqb_tells o p) [
  | inl e ↦ subst (λ (k : ℕ). given_up_in (with_body f o bodies) k ≡ given_up_in bodies k) e.1 (ap given_up_by (get-own f o bodies) ∙ given_same f same (slice_get bodies o))
  | inr e ↦ ap given_up_by (get-other f o p bodies e.1)
]

pub live-changed : (o : Option ℕ) (change : Change) (bodies : List Held) (p : ℕ)
    → is_live_in (bodies_changed o change bodies) p ≡ is_live_in bodies p
live-changed None change bodies p = refl
live-changed (Some o) change bodies p = live-body (body_changed change) (λ h. refl) o p bodies

given-changed : (o : Option ℕ) (change : Change) (bodies : List Held) (p : ℕ)
    → given_up_in (bodies_changed o change bodies) p ≡ given_up_in bodies p
given-changed None change bodies p = refl
given-changed (Some o) change bodies p = given-body (body_changed change) (λ h. refl) o p bodies

pub mirrored_changed : (objects : List Object) (finalised dropped : List ℕ) (bodies : List Held) (o : Option ℕ)
    (change : Change) → AreMirrored objects finalised dropped bodies
    → AreMirrored (objects_after o change objects) finalised dropped (bodies_changed o change bodies)
mirrored_changed objects finalised dropped bodies o change h = record {
  objects_are = objects-changed o change bodies ∙ ap (objects_after o change) h.objects_are;
  lives = λ p. rw (length-objects_after o change objects) (live-changed o change bodies p ∙ h.lives p);
  given_up = λ p. given-changed o change bodies p ∙ h.given_up p;
}

-- ---- a new object

apart : (m n : ℕ) → m ≤ n → (m ≡ n → ⊥) → m < n
apart m n le h = grind (arith, nat_tests)

get-before : (bodies : List Held) (b : Held) (o : ℕ) → o < length bodies
    → slice_get (bodies ++ b ∷ []) o ≡ slice_get bodies o
get-before [] b o h = absurd (omega arith)
get-before (x ∷ xs) b zero h = refl
get-before (x ∷ xs) b (suc o) h = get-before xs b o (omega arith)

get-at : (bodies : List Held) (b : Held) → slice_get (bodies ++ b ∷ []) (length bodies) ≡ Some b
get-at [] b = refl
get-at (x ∷ xs) b = get-at xs b

get-past : (bodies : List Held) (o : ℕ) → length bodies ≤ o → slice_get bodies o ≡ None
get-past [] o h = refl
get-past (x ∷ xs) zero h = absurd (omega arith)
get-past (x ∷ xs) (suc o) h = get-past xs o (omega arith)

module _ (objects : List Object) (finalised dropped : List ℕ) (bodies : List Held) (ob : Object) (h : AreMirrored objects finalised dropped bodies) (unmade : times (length objects) finalised ≡ 0) (undropped : times (length objects) dropped ≡ 0) where
  size : length bodies ≡ length objects
  size = sym (length-objects bodies) ∙ ap length h.objects_are

  more : length (objects ++ ob ∷ []) ≡ length objects + 1
  more = length-append objects (ob ∷ [])

  end_live : is_live_in (bodies ++ live ob ∷ [])
      (length objects) ≡ (ltb (length objects) (length (objects ++ ob ∷ [])) && (times (length objects) finalised == 0))
  end_live =
      let below : ltb (length objects) (length (objects ++ ob ∷ [])) ≡ true = rw more (grind (arith, nat_tests)) in
      rw (below, unmade, ← size, get-at bodies (live ob)) refl

  end_given : given_up_in (bodies ++ live ob ∷ []) (length objects) ≡ times (length objects) dropped
  end_given = rw (undropped, ← size, get-at bodies (live ob)) refl

  before_live : (p : ℕ) → p < length objects
      → is_live_in (bodies ++ live ob ∷ []) p ≡ (ltb p (length (objects ++ ob ∷ [])) && (times p finalised == 0))
  before_live p below =
      let old : ltb p (length objects) ≡ true = grind (arith, nat_tests) in
      let new : ltb p (length (objects ++ ob ∷ [])) ≡ true = rw more (grind (arith, nat_tests)) in
      rw new (ap is_live_body (get-before bodies (live ob) p (omega (arith, below, size))) ∙ h.lives p ∙ rw old refl)

  past_none : (p : ℕ) → length objects < p → slice_get (bodies ++ live ob ∷ []) p ≡ None
  past_none p above = get-past (bodies ++ live ob ∷ []) p (omega (arith, above, size, length-append bodies (live ob ∷ [])))

  past_live : (p : ℕ) → length objects < p
      → is_live_in (bodies ++ live ob ∷ []) p ≡ (ltb p (length (objects ++ ob ∷ [])) && (times p finalised == 0))
  past_live p above =
      let past : ltb p (length (objects ++ ob ∷ [])) ≡ false = rw more (grind (arith, nat_tests)) in
      rw past (ap is_live_body (past_none p above))

  past_given : (p : ℕ) → length objects < p → given_up_in (bodies ++ live ob ∷ []) p ≡ times p dropped
  past_given p above = ap given_up_by (past_none p above ∙ sym (get-past bodies p (omega (arith, above, size)))) ∙ h.given_up p

  pub mirrored_made : AreMirrored (objects ++ ob ∷ []) finalised dropped (bodies ++ live ob ∷ [])
  mirrored_made = record {
    objects_are = objects-append bodies (live ob ∷ []) ∙ ap (λ (os : List Object). os ++ ob ∷ []) h.objects_are;
    lives = λ p. elim (cases_lt p (length objects)) [
      | inl below ↦ before_live p below
      | inr above ↦ elim (eqb_tells (length objects) p) [
        | inl e ↦ subst (λ (k : ℕ). is_live_in (bodies ++ live ob ∷ []) k ≡ (ltb k (length (objects ++ ob ∷ [])) && (times k finalised == 0))) e.1 end_live
        | inr e ↦ past_live p (apart (length objects) p above e.1)
      ]
    ];
    given_up = λ p. elim (cases_lt p (length objects)) [
      | inl below ↦ ap given_up_by (get-before bodies (live ob) p (omega (arith, below, size))) ∙ h.given_up p
      | inr above ↦ elim (eqb_tells (length objects) p) [
        | inl e ↦ subst (λ (k : ℕ). given_up_in (bodies ++ live ob ∷ []) k ≡ times k dropped) e.1 end_given
        | inr e ↦ past_given p (apart (length objects) p above e.1)
      ]
    ];
  }

-- ---- an object that is finalised, and a slot that is given up

some_made : (bodies : List Held) (o : ℕ) → o < length bodies → (h : Held) × (slice_get bodies o ≡ Some h)
some_made [] o lt = absurd (omega arith)
some_made (b ∷ bs) zero lt = (b, refl)
some_made (b ∷ bs) (suc o) lt = some_made bs o (omega arith)

module _ (objects : List Object) (finalised dropped : List ℕ) (bodies : List Held) (o : ℕ) (h : AreMirrored objects finalised dropped bodies) (made : o < length objects) where
  within : o < length bodies
  within = omega (arith, made, length-objects bodies, ap length h.objects_are)

  finalised_live : is_live_in (with_body body_finalised o bodies) o ≡ (ltb o (length objects) && (times o (o ∷ finalised) == 0))
  finalised_live =
      let there = some_made bodies o within in
      let own : counted (eqb o o) ≡ 1 = ap counted (eq-eqb o o refl) in
      let below : ltb o (length objects) ≡ true = grind (arith, nat_tests) in
      let some : (times o (o ∷ finalised) == 0) ≡ false = grind (arith, nat_tests) in
      ap is_live_body (get-own body_finalised o bodies ∙ ap (option_map body_finalised) there.1) ∙ sym (rw (below, some) refl)

  pub mirrored_finalised : AreMirrored objects (o ∷ finalised) dropped (with_body body_finalised o bodies)
  mirrored_finalised = record {
    objects_are = objects-kept body_finalised (λ b. refl) o bodies ∙ h.objects_are;
    lives = λ p. elim (eqb_tells o p) [
      | inl e ↦ subst (λ (k : ℕ). is_live_in (with_body body_finalised o bodies) k ≡ (ltb k (length objects) && (times k (o ∷ finalised) == 0))) e.1 finalised_live
      | inr e ↦
          let none : counted (eqb o p) ≡ 0 = ap counted e.0 in
          let same : times p (o ∷ finalised) ≡ times p finalised = omega (arith, none) in
          ap is_live_body (get-other body_finalised o p bodies e.1) ∙ h.lives p ∙ sym (ap (λ (n : ℕ). ltb p (length objects) && (n == 0)) same)
    ];
    given_up = λ p. given-body body_finalised (λ b. refl) o p bodies ∙ h.given_up p;
  }

  dropped_own : given_up_in (with_body body_dropped o bodies) o ≡ times o (o ∷ dropped)
  dropped_own =
      let there = some_made bodies o within in
      let own : counted (eqb o o) ≡ 1 = ap counted (eq-eqb o o refl) in
      let before : there.0.given_up ≡ times o dropped = ap given_up_by (sym there.1) ∙ h.given_up o in
      ap given_up_by (get-own body_dropped o bodies ∙ ap (option_map body_dropped) there.1) ∙ omega (arith, before, own)

  pub mirrored_dropped : AreMirrored objects finalised (o ∷ dropped) (with_body body_dropped o bodies)
  mirrored_dropped = record {
    objects_are = objects-kept body_dropped (λ b. refl) o bodies ∙ h.objects_are;
    lives = λ p. live-body body_dropped (λ b. refl) o p bodies ∙ h.lives p;
    given_up = λ p. elim (eqb_tells o p) [
      | inl e ↦ subst (λ (k : ℕ). given_up_in (with_body body_dropped o bodies) k ≡ times k (o ∷ dropped)) e.1 dropped_own
      | inr e ↦
          let none : counted (eqb o p) ≡ 0 = ap counted e.0 in
          ap given_up_by (get-other body_dropped o p bodies e.1) ∙ h.given_up p ∙ omega (arith, none)
    ];
  }

-- ---- a change of nothing

body_unchanged : (o : ℕ) (bodies : List Held) → with_body (body_changed unchanged) o bodies ≡ bodies
body_unchanged o [] = refl
body_unchanged zero (h ∷ hs) = refl
body_unchanged (suc o) (h ∷ hs) = ap (λ (bs : List Held). h ∷ bs) (body_unchanged o hs)

pub bodies_unchanged : (o : Option ℕ) (bodies : List Held) → bodies_changed o unchanged bodies ≡ bodies
bodies_unchanged None bodies = refl
bodies_unchanged (Some o) bodies = body_unchanged o bodies

-- ---- how many objects were made

pub count-mirrors : (p : Parts) (bodies : List Held) → Mirrors p bodies → length bodies ≡ length p.objects
count-mirrors p bodies h = sym (length-objects bodies) ∙ ap length h.objects_are
