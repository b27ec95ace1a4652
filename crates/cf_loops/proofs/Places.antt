-- A loop that an item leaves, place by place.
use Rattle.std.proofs.Common.{◌≡◌, ℕ, ◌<◌, ◌≤◌, Bool, true, false, not, cond, ◌||◌, eqb, List, [], ◌∷◌, length, get_or, Some, None, refl, sym, ap, ◌∙◌, subst, arith}
use Rattle.std.specs.Prelude.{slice_get}
use Rattle.std.specs.List.{filter, list_any}
use Rattle.std.proofs.lemmas.Bool.{and_right}
use Rattle.std.proofs.lemmas.List.Elements.{All-filter, filter_passes}
use Rattle.std.proofs.lemmas.List.Folds.{list_any_none}
use Rattle.std.proofs.lemmas.Option.{get_or_from_slice_get, slice_get_within}
use Rattle.cf_ids.specs.declared.limits.TheConstants.{MODES}
use Rattle.rl_base.specs.declared.places.Place.{Place}
use Rattle.rl_base.specs.declared.places.Place.TheVariants.{Common, Mode}
use Rattle.rl_base.specs.Modes.{rank, places, all_modes}
use Rattle.rl_modes.specs.Loops.{Holding, Loop, is_of, holds_at, without}
use Rattle.rl_modes.proofs.Cuts.{length-filter-le}
use Rattle.rl_modes.proofs.News.{leaves_none}
use Rattle.cf_next.proofs.LineLaws.{none-past}
use Rattle.cf_loops.specs.Changing.{AreLow, IsLeaving, HasLeft, held_after_drop, others, places_at, places_left}
use Rattle.cf_loops.proofs.Invalidating.{others_are}

filter_fewer : {A : Type 0} (f g : A → Bool) (xs : List A) → ((x : A) → g x ≡ true → f x ≡ false)
    → list_any g xs ≡ true → length (filter f xs) < length xs
filter_fewer f g [] h some = absurd cc
filter_fewer f g (x ∷ xs) h some = by (g x) (f x) refl refl some (filter_fewer f g xs h)
  where
    by : (b c : Bool) → g x ≡ b → f x ≡ c → (b || list_any g xs) ≡ true
        → (list_any g xs ≡ true → length (filter f xs) < length xs)
        → length (cond c (x ∷ filter f xs) (filter f xs)) < length (x ∷ xs)
    by true true e d some rest = let no_more : f x ≡ false = h x e in absurd cc
    by true false e d some rest = omega (arith, length-filter-le f xs)
    by false true e d some rest = omega (arith, rest some)
    by false false e d some rest = omega (arith, rest some)

filter_of_kept : {A : Type 0} (f g : A → Bool) (xs : List A) → ((x : A) → f x ≡ true → g x ≡ true)
    → filter f (filter g xs) ≡ filter f xs
filter_of_kept f g [] h = refl
filter_of_kept f g (x ∷ xs) h = by (f x) (g x) refl refl (filter_of_kept f g xs h)
  where
    by : (b c : Bool) → f x ≡ b → g x ≡ c → filter f (filter g xs) ≡ filter f xs
        → filter f (cond c (x ∷ filter g xs) (filter g xs)) ≡ cond b (x ∷ filter f xs) (filter f xs)
    by true true e d rest = rw e (ap (λ ys. x ∷ ys) rest)
    by true false e d rest = let kept : g x ≡ true = h x e in absurd cc
    by false true e d rest = rw e rest
    by false false e d rest = rest

others_without : (i : ℕ) (ps : List Place) (hs : List Holding) → others i (without i ps hs) ≡ others i hs
others_without i ps hs = filter_of_kept (λ h. not (eqb h.item.id i)) (λ h. not (list_any (λ p. is_of i p h) ps)) hs kept
  where
    not_so : (b : Bool) → not b ≡ true → b ≡ false
    not_so true e = absurd cc
    not_so false e = refl

    kept : (h : Holding) → not (eqb h.item.id i) ≡ true → not (list_any (λ p. is_of i p h) ps) ≡ true
    kept h e = ap not (list_any_none (λ p. is_of i p h) ps (λ k d lt. and_right (eqb (rank h.place) (rank (get_or ps k d))) (eqb h.item.id i) (not_so (eqb h.item.id i) e)))

-- the first of places that hold an item holds it
first_holds : (f : Place → Bool) (ps : List Place) (q : Place) → Some q ≡ slice_get (filter f ps) 0 → f q ≡ true
first_holds f ps q e = subst (λ (p : Place). f p ≡ true) (get_or_from_slice_get (filter f ps) 0 q q (sym e)) (filter_passes f ps 0 q (slice_get_within (filter f ps) 0 q (sym e)))

-- what is of an item in a place goes with the places that it leaves
goes : (i : ℕ) (q : Place) (l : Loop) (h : Holding) → holds_at l.held i q ≡ true → is_of i q h ≡ true
    → not (list_any (λ p. is_of i p h) (places_left i q l)) ≡ false
goes i Common l h held is = rw (held, is) refl
goes i (Mode m) l h held is = rw is refl

pub leaving_start : (i : ℕ) (l : Loop) → IsLeaving i l l
leaving_start i l = record { low = λ h. h; others_stay = refl; common_modes = refl }

module _ (i : ℕ) (start now new : Loop) (q : Place) (first : Some q ≡ slice_get (places_at i now) 0) (is : new.held ≡ held_after_drop i q now) where
  holds : holds_at now.held i q ≡ true
  holds = first_holds (holds_at now.held i) (places all_modes) q first

  without_is : new.held ≡ without i (places_left i q now) now.held
  without_is = is ∙ ap (λ (b : Bool). cond b (without i (places_left i q now) now.held) now.held) holds

  pub leaving_fewer : length new.held < length now.held
  leaving_fewer =
      subst (λ (hs : List Holding). length hs < length now.held) (sym without_is)
      (filter_fewer (λ h. not (list_any (λ p. is_of i p h) (places_left i q now))) (is_of i q) now.held (λ h t. goes i q now h holds t) holds)

  pub leaving_more : IsLeaving i start now → new.common_modes ≡ now.common_modes → IsLeaving i start new
  leaving_more so_far same = record {
    low = λ h. subst AreLow (sym without_is) (All-filter (λ x. not (list_any (λ p. is_of i p x) (places_left i q now))) (λ (x : Holding). rank x.place ≤ MODES) now.held (so_far.low h));
    others_stay = ap (others i) without_is ∙ others_without i (places_left i q now) now.held ∙ so_far.others_stay;
    common_modes = same ∙ so_far.common_modes;
  }

nothing : (ps : List Place) → length ps ≤ 0 → ps ≡ []
nothing [] le = refl
nothing (p ∷ ps) le = absurd (omega arith)

pub leaving_end : (i : ℕ) (start now : Loop) → IsLeaving i start now → None ≡ slice_get (places_at i now) 0
    → HasLeft i start now
leaving_end i start now so_far none = record {
  held = λ low.
      leaves_none i now.held
      ∙ ap (λ (ps : List Place). without i ps now.held) (sym (nothing (places_at i now) (none-past (places_at i now) 0 none)))
      ∙ sym (others_are i now.held (so_far.low low)) ∙ so_far.others_stay;
  common_modes = so_far.common_modes;
}
