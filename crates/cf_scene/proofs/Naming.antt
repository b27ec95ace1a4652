-- Deals by an object and a thread that a statement names, each of which there may be or not: what is so of each deal
-- that it may be is so of it.
use Rattle.std.proofs.Common.{◌≡◌, ℕ, Bool, true, false, cond, Option, Some, None, refl, sym, subst}
use Rattle.cf_model.specs.State.{Parts}
use Rattle.cf_model.specs.Things.{Thing, thing_at}
use Rattle.cf_model.specs.Deals.{Deal, skipping, thing_deal, with_thing, with_used}
use Rattle.cf_scene.specs.Needs.{placing}

module _ (P : Deal → Type 0) where
  -- ---- all that it may be

  pub of_two : (b : Bool) (x y : Deal) → P x → P y → P (cond b x y)
  of_two true x y h k = h
  of_two false x y h k = k

  module _ (p : Parts) (skipped : P (skipping p)) where
    pub of_used : (o : Option ℕ) (deal : ℕ → Deal) → ((i : ℕ) → P (deal i)) → P (with_used p o deal)
    of_used None deal h = skipped
    of_used (Some i) deal h = h i

    pub of_thing : (o : Option ℕ) (deal : ℕ → Thing → Deal)
        → ((i : ℕ) (x : Thing) → thing_at p i ≡ Some x → P (deal i x)) → P (with_thing p o deal)
    of_thing None deal h = skipped
    of_thing (Some i) deal h = by (thing_at p i) refl
      where
        by : (o : Option Thing) → thing_at p i ≡ o → P (thing_deal p i deal o)
        by None e = skipped
        by (Some x) e = h i x e

  -- ---- what is there

  module _ (p : Parts) where
    -- with an item
    pub an_item : (o : Option ℕ) (deal : ℕ → Thing → Deal) (i : ℕ) → o ≡ Some i
        → P (thing_deal p i deal (thing_at p i)) → P (with_thing p o deal)
    an_item o deal i e h = subst (λ (x : Option ℕ). P (with_thing p x deal)) (sym e) h

    -- with a thread
    pub a_thread : (u : Option ℕ) (deal : ℕ → Deal) (w : ℕ) → u ≡ Some w → P (deal w) → P (with_used p u deal)
    a_thread u deal w e h = subst (λ (x : Option ℕ). P (with_used p x deal)) (sym e) h

    -- with both
    pub a_place : (o u : Option ℕ) (deal : ℕ → ℕ → Thing → Deal) (i w : ℕ) → o ≡ Some i → u ≡ Some w
        → P (thing_deal p i (deal w) (thing_at p i)) → P (placing p o u deal)
    a_place o u deal i w e f h =
        subst (λ (x : Option ℕ). P (placing p x u deal)) (sym e)
        (subst (λ (x : Option ℕ). P (placing p (Some i) x deal)) (sym f) h)
