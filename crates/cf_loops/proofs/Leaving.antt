-- What leaves loops for a thread: references of one loop or of all of them, each there.
use Rattle.std.proofs.Common.{◌≡◌, ℕ, suc, ◌<◌, ◌≤◌, Bool, true, false, ◌&&◌, ◌||◌, eqb, List, [], ◌∷◌, length, map, replicate, refl, sym, ap, ◌∙◌, subst, arith, inl, inr}
use Rattle.std.specs.List.{filter, list_any, AllPairs}
use Rattle.std.proofs.lemmas.Bool.{eqb-true, and_parts, ltb-true}
use Rattle.std.proofs.lemmas.Bool.Decides.{eqb_tells}
use Rattle.std.proofs.lemmas.List.Elements.{All-map}
use Rattle.std.proofs.lemmas.List.Kept.{AllPairs-cons, AllPairs-filter}
use Rattle.std.proofs.lemmas.Map.Views.{any-filter_same}
use Rattle.cf_ids.specs.declared.numbers.Item.{Item}
use Rattle.cf_ids.specs.declared.numbers.ItemKind.TheVariants.{Source}
use Rattle.rl_base.specs.declared.places.Place.{Place}
use Rattle.rl_base.specs.declared.places.Place.TheVariants.{Common, Mode}
use Rattle.rl_base.specs.Modes.{rank, places}
use Rattle.rl_modes.specs.Loops.{Holding, holds_at, in_each}
use Rattle.rl_modes.proofs.Sound.{places_up}
use Rattle.cf_graph.specs.Holders.{Holder, variable, callout, owed, parcel, slot, in_mode, in_common}
use Rattle.cf_graph.specs.Edges.{Reference, held_by, weigh, one, counted, has}
use Rattle.cf_graph.proofs.Flows.{holders_apart}
use Rattle.cf_model.specs.Deals.{holder_at, held_at}
use Rattle.cf_loops.specs.Following.{IsPlaceOfLoop}
use Rattle.cf_loops.specs.Edging.{references_of}
use Rattle.cf_loops.proofs.Ordering.{Before}
use Rattle.cf_loops.proofs.Telling.{place_of_loop}
use Rattle.cf_loops.proofs.Weights.{each_place, other_loop, held_once}

-- ---- references by their holders

pub data PlaceView : Holder → Type 0 where
  of_loop : (t : ℕ) (q : Place) → PlaceView (holder_at t q)
  of_other : (h : Holder) → (IsPlaceOfLoop h → ⊥) → PlaceView h

pub place_view : (h : Holder) → PlaceView h
place_view (variable t d v) = of_other (variable t d v) (λ x. x)
place_view (callout t d) = of_other (callout t d) (λ x. x)
place_view (owed t) = of_other (owed t) (λ x. x)
place_view (parcel t k) = of_other (parcel t k) (λ x. x)
place_view (slot b) = of_other (slot b) (λ x. x)
place_view (in_mode t m) = of_loop t (Mode m)
place_view (in_common t) = of_loop t Common

-- a reference of another holder is none of a loop
pub no_place : (r : Reference) (t : ℕ) (hs : List Holding) → (IsPlaceOfLoop r.holder → ⊥)
    → weigh (one r) (references_of t hs) ≡ 0
no_place r t [] apart = refl
no_place r t (h ∷ hs) apart =
    omega (arith, holders_apart r (held_by (holder_at t h.place) h.item.id) (λ e. apart (subst IsPlaceOfLoop (sym e) (place_of_loop t h.place))), no_place r t hs apart)

-- a claim of each reference, by its holder
pub by_place : (P : Reference → Type 0) → ((t i : ℕ) (q : Place) → P (held_by (holder_at t q) i))
    → ((r : Reference) → (IsPlaceOfLoop r.holder → ⊥) → P r) → (r : Reference) → P r
by_place P place other r = by r.holder r.object (place_view r.holder) refl
  where
    by : (h : Holder) (o : ℕ) → PlaceView h → r ≡ held_by h o → P r
    by _ o (of_loop t q) e = subst P (sym e) (place t o q)
    by _ o (of_other h apart) e = other r (λ is. apart (subst IsPlaceOfLoop (ap (λ (x : Reference). x.holder) e) is))

-- ---- the places of an item

each_before : (i : ℕ) (ps : List Place) → AllPairs (λ p q. rank p < rank q) ps
    → AllPairs Before (in_each (record { id = i; kind = Source }) ps)
each_before i [] rises = λ a b d lt below. absurd (omega arith)
each_before i (p ∷ ps) rises =
    let item : Item = record { id = i; kind = Source } in
    let first : Holding = record { place = p; item = item } in
    AllPairs-cons Before first (in_each item ps)
    (All-map (Before first) (λ q. record { place = q; item = item }) ps
    (λ k d lt. let up = rises 0 (suc k) d (omega arith) (omega arith) in record { firsts = omega (arith, up); seconds = λ e. absurd (omega (arith, up, e)) }))
    (each_before i ps (λ a b d lt below. rises (suc a) (suc b) d (omega arith) (omega arith)))

holds_each : (i j : ℕ) (q : Place) (ps : List Place)
    → holds_at (in_each (record { id = i; kind = Source }) ps) j q ≡ true
    → (i ≡ j) × (list_any (λ p. eqb (rank p) (rank q)) ps ≡ true)
holds_each i j q [] h = absurd cc
holds_each i j q (p ∷ ps) h = by (eqb (rank p) (rank q)) (eqb i j) refl refl h (holds_each i j q ps)
  where
    by : (a b : Bool) → eqb (rank p) (rank q) ≡ a → eqb i j ≡ b
        → ((a && b) || holds_at (in_each (record { id = i; kind = Source }) ps) j q) ≡ true
        → (holds_at (in_each (record { id = i; kind = Source }) ps) j q ≡ true → (i ≡ j) × (list_any (λ p. eqb (rank p) (rank q)) ps ≡ true))
        → (i ≡ j) × ((eqb (rank p) (rank q) || list_any (λ p. eqb (rank p) (rank q)) ps) ≡ true)
    by true true e f h rest = (eqb-true i j f, rw e refl)
    by true false e f h rest = let r = rest h in (r.0, rw e refl)
    by false b e f h rest = let r = rest h in (r.0, rw e r.1)

-- where each place of some has a reference to the item, there are no more of these places' than are there
pub no_more : (t i : ℕ) (f : Place → Bool) (modes : List ℕ) (es : List Reference) → AllPairs (λ a b. a < b) modes
    → ((p q : Place) → rank p ≡ rank q → f p ≡ f q) → ((q : Place) → f q ≡ true → has (holder_at t q) i es ≡ true)
    → (r : Reference) → weigh (one r) (held_at t i (filter f (places modes))) ≤ weigh (one r) es
no_more t i f modes es rises alike there =
    by_place (λ r. weigh (one r) (held_at t i (filter f (places modes))) ≤ weigh (one r) es)
    (λ u j q. elim (eqb_tells u t) [
      | inl e ↦ subst (λ (n : ℕ). weigh (one (held_by (holder_at n q) j)) (held_at t i (filter f (places modes))) ≤ weigh (one (held_by (holder_at n q) j)) es) (sym e.1) (own j q)
      | inr e ↦ omega (arith, ap (weigh (one (held_by (holder_at u q) j))) (sym (each_place t item ps)), other_loop u t j q (in_each item ps) e.1)
    ])
    (λ r apart. omega (arith, ap (weigh (one r)) (sym (each_place t item ps)), no_place r t (in_each item ps) apart))
  where
    item : Item
    item = record { id = i; kind = Source }

    ps : List Place
    ps = filter f (places modes)

    own : (j : ℕ) (q : Place)
        → weigh (one (held_by (holder_at t q) j)) (held_at t i (filter f (places modes))) ≤ weigh (one (held_by (holder_at t q) j)) es
    own j q = by (holds_at (in_each item ps) j q) refl
      where
        here : weigh (one (held_by (holder_at t q) j)) (held_at t i ps) ≡ counted (holds_at (in_each item ps) j q)
        here =
            ap (weigh (one (held_by (holder_at t q) j))) (sym (each_place t item ps))
            ∙ held_once t j q (in_each item ps) (each_before i ps (AllPairs-filter (λ (a b : Place). rank a < rank b) f (places modes) (places_up modes rises)))

        by : (b : Bool) → holds_at (in_each item ps) j q ≡ b
            → weigh (one (held_by (holder_at t q) j)) (held_at t i ps) ≤ weigh (one (held_by (holder_at t q) j)) es
        by true e =
            let both = holds_each i j q ps e in
            let found = any-filter_same (λ p. eqb (rank p) (rank q)) f (f q) (λ k r. alike k q (eqb-true (rank k) (rank q) r)) (places modes) in
            let passes : f q ≡ true = (and_parts (f q) (list_any (λ p. eqb (rank p) (rank q)) (places modes)) (sym found ∙ both.1)).0 in
            let some : 0 < weigh (one (held_by (holder_at t q) j)) es = subst (λ (n : ℕ). 0 < weigh (one (held_by (holder_at t q) n)) es) both.0 (ltb-true 0 (weigh (one (held_by (holder_at t q) i)) es) (there q passes)) in
            omega (arith, here, ap counted e, some)
        by false e = omega (arith, here, ap counted e)

pub objects_at : (t i : ℕ) (ps : List Place) → map (λ r. r.object) (held_at t i ps) ≡ replicate (length ps) i
objects_at t i [] = refl
objects_at t i (p ∷ ps) = ap (λ (xs : List ℕ). i ∷ xs) (objects_at t i ps)
