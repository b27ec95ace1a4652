-- Counts of places, one after another.
use Rattle.std.proofs.Common.{◌≡◌, ℕ, ◌+◌, ◌<◌, ◌≤◌, Bool, true, false, cond, List, [], ◌∷◌, length, map, take, Option, Some, None, is_some, refl, sym, ap, ◌∙◌, arith}
use Rattle.std.specs.Prelude.{slice_get}
use Rattle.std.specs.List.{filter, range_with_len}
use Rattle.std.proofs.lemmas.Option.{get_or_from_slice_get, slice_get_within}
use Rattle.std.proofs.lemmas.List.{length-map, length-take, take_all}
use Rattle.std.proofs.lemmas.List.FromFn.{length-range_with_len}
use Rattle.std.proofs.lemmas.List.Filters.{length-filter_more}
use Rattle.cf_ids.specs.declared.limits.TheConstants.{MODES}
use Rattle.rl_base.specs.declared.places.Place.{Place}
use Rattle.rl_base.specs.declared.places.Place.TheVariants.{Common, Mode}
use Rattle.rl_base.specs.Modes.{places, all_modes}
use Rattle.cf_next.proofs.LineLaws.{none-past}
use Rattle.rl_modes.specs.Loops.{Loop, holds_at}
use Rattle.rl_modes.proofs.Cuts.{length-filter-le}
use Rattle.cf_loops.specs.Changing.{places_at}

-- no more places than the common items and as many as modes can be
pub places_few : (i : ℕ) (l : Loop) → length (places_at i l) ≤ 1025
unfolding all_modes
places_few i l = omega (
  arith,
  length-filter-le (holds_at l.held i) (places (range_with_len 0 MODES)),
  length-map (range_with_len 0 MODES) Mode,
  length-range_with_len 0 MODES,
)

module _ {A : Type 0} (ps : List A) (k : ℕ) where
  -- there is one at a place
  pub there : (x : A) → Some x ≡ slice_get ps k → k < length ps
  there x e = slice_get_within ps k x (sym e)

  pub there_if : (o : Option A) (b : Bool) → o ≡ slice_get ps k → b ≡ is_some o → b ≡ true → k < length ps
  there_if None b e is t = absurd cc
  there_if (Some x) b e is t = there x e

  -- there is none
  pub past_if : (o : Option A) (b : Bool) → o ≡ slice_get ps k → b ≡ is_some o → b ≡ false → length ps ≤ k
  past_if None b e is f = none-past ps k e
  past_if (Some x) b e is f = absurd cc

  -- those that pass a test, with one more
  pub passed_more : (f : A → Bool) (x : A) (n m : ℕ) (b : Bool) → Some x ≡ slice_get ps k
      → n ≡ length (filter f (take k ps)) → b ≡ f x → m ≡ cond b 1 0
      → n + m ≡ length (filter f (take (k + 1) ps))
  passed_more f x n m b e so_far is one =
      let more : m ≡ cond {A = ℕ} (f x) 1 0 = one ∙ ap (λ (c : Bool). cond {A = ℕ} c 1 0) is in
      omega (arith, so_far, more, length-filter_more f ps k x (there x e), ap (λ (y : A). cond {A = ℕ} (f y) 1 0) (get_or_from_slice_get ps k x x (sym e)))

  pub passed_all : (f : A → Bool) (n : ℕ) → None ≡ slice_get ps k → n ≡ length (filter f (take k ps))
      → n ≡ length (filter f ps)
  passed_all f n e so_far = so_far ∙ ap (λ (xs : List A). length (filter f xs)) (take_all k ps (none-past ps k e))

-- the first place that holds an item is the common items exactly if they hold it
pub first_common : (f : Place → Bool) (modes : List ℕ) → (Some Common ≡ slice_get (filter f (places modes)) 0)
    → f Common ≡ true
first_common f modes e = by (f Common) e
  where
    no_mode : (ms : List ℕ) → Some Common ≡ slice_get (filter f (map Mode ms)) 0 → ⊥
    no_mode [] q = cc
    no_mode (m ∷ ms) q = here (f (Mode m)) q (no_mode ms)
      where
        here : (b : Bool)
            → Some Common ≡ slice_get (cond b (Mode m ∷ filter f (map Mode ms)) (filter f (map Mode ms))) 0
            → (Some Common ≡ slice_get (filter f (map Mode ms)) 0 → ⊥) → ⊥
        here true q rest = cc
        here false q rest = rest q

    by : (b : Bool)
        → Some Common ≡ slice_get (cond b (Common ∷ filter f (map Mode modes)) (filter f (map Mode modes))) 0 → b ≡ true
    by true q = refl
    by false q = absurd (no_mode modes q)

pub not_common : (f : Place → Bool) (modes : List ℕ) → (Some Common ≡ slice_get (filter f (places modes)) 0 → ⊥)
    → f Common ≡ false
not_common f modes h = by (f Common) h
  where
    by : (b : Bool)
        → (Some Common ≡ slice_get (cond b (Common ∷ filter f (map Mode modes)) (filter f (map Mode modes))) 0 → ⊥)
        → b ≡ false
    by true h = absurd (h refl)
    by false h = refl

pub passed_few : {A : Type 0} (ps : List A) (f : A → Bool) (k : ℕ) → length (filter f (take k ps)) ≤ length ps
passed_few ps f k = omega (arith, length-filter-le f (take k ps), length-take k ps)
