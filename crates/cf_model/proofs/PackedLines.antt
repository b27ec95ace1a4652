-- What lines pack: setup has one line at most for each place of a parcel.
use Rattle.std.proofs.Common.{◌≡◌, ℕ, zero, suc, ◌+◌, ◌<◌, ◌≤◌, Bool, true, false, List, [], ◌∷◌, ◌++◌, map, take, Option, Some, refl, ap, arith, inl, inr}
use Rattle.std.proofs.lemmas.Bool.Decides.{eqb_tells}
use Rattle.std.specs.Prelude.{slice_get}
use Rattle.cf_syntax.specs.declared.script.Script.{Script}
use Rattle.cf_syntax.specs.declared.script.Block.{Block}
use Rattle.cf_syntax.specs.declared.script.Given.{Given}
use Rattle.cf_syntax.specs.BlockLines.{BlockLine, begins, claims, says, packs, packs_from, packs_for, statements_in, thread_blocks, setup_lines}
use Rattle.cf_syntax.proofs.StageLaws.{AllLines}
use Rattle.cf_syntax.proofs.PackLaws.{NoPack, said_pack_nothing}
use Rattle.cf_graph.specs.Holders.{Holder, parcel, same_holder}
use Rattle.cf_graph.specs.Edges.{counted}
use Rattle.cf_model.proofs.FirstHeld.{parcel_apart}
use Rattle.cf_model.proofs.ParcelSteps.{packed_line}

abbrev pub packed : Holder → List BlockLine → ℕ
packed h [] = 0
packed h (x ∷ xs) = packed_line h x + packed h xs

packed_append : (h : Holder) (xs ys : List BlockLine) → packed h (xs ++ ys) ≡ packed h xs + packed h ys
packed_append h [] ys = omega arith
packed_append h (x ∷ xs) ys = omega (arith, packed_append h xs ys)

line_is : (x y : BlockLine) → ◌≡◌ {A = Option BlockLine} (Some x) (Some y) → x ≡ y
line_is x y e = cc

pub packed_next : (h : Holder) (xs : List BlockLine) (n : ℕ) (x : BlockLine) → slice_get xs n ≡ Some x
    → packed h (take (n + 1) xs) ≡ packed h (take n xs) + packed_line h x
packed_next h [] n x e = absurd cc
packed_next h (y ∷ xs) zero x e = omega (arith, ap (packed_line h) (line_is y x e))
packed_next h (y ∷ xs) (suc n) x e =
    let more : suc n + 1 ≡ suc (n + 1) = omega arith in
    rw more (omega (arith, packed_next h xs n x e))

pub packed_part : (h : Holder) (n : ℕ) (xs : List BlockLine) → packed h (take n xs) ≤ packed h xs
packed_part h zero xs = omega arith
packed_part h (suc n) [] = omega arith
packed_part h (suc n) (x ∷ xs) = omega (arith, packed_part h n xs)

pub no_pack_line : (h : Holder) (x : BlockLine) → NoPack x → packed_line h x ≡ 0
no_pack_line h (begins v) p = refl
no_pack_line h (claims k v) p = refl
no_pack_line h (says x) p = refl
no_pack_line h (packs u k v) p = absurd p

no_packs : (h : Holder) (xs : List BlockLine) → AllLines NoPack xs → packed h xs ≡ 0
no_packs h [] p = refl
no_packs h (x ∷ xs) p = omega (arith, no_pack_line h x (p 0 x refl), no_packs h xs (λ n y e. p (suc n) y e))

-- one line at most packs for a place
pack_apart : (u k t m : ℕ) (v : Option ℕ) → (u ≡ t → k ≡ m → ⊥) → packed_line (parcel u k) (packs t m v) ≡ 0
pack_apart u k t m v h = ap counted (parcel_apart u k t m h)

places_below : (u k t m : ℕ) (us : List Given) → k < m → packed (parcel u k) (packs_from t m us) ≡ 0
places_below u k t m [] lt = refl
places_below u k t m (x ∷ us) lt =
    omega (arith, pack_apart u k t m x.setup (λ a b. omega (arith, lt, b)), places_below u k t (m + 1) us (omega (arith, lt)))

places_few : (u k t m : ℕ) (us : List Given) → packed (parcel u k) (packs_from t m us) ≤ 1
places_few u k t m [] = omega arith
places_few u k t m (x ∷ us) = elim (eqb_tells k m) [
  | inl e ↦ omega (arith, counted_few (same_holder (parcel u k) (parcel t m)), places_below u k t (m + 1) us (omega (arith, e.1)))
  | inr e ↦ omega (arith, pack_apart u k t m x.setup (λ a b. e.1 b), places_few u k t (m + 1) us)
]
  where
    counted_few : (b : Bool) → counted b ≤ 1
    counted_few true = omega arith
    counted_few false = omega arith

places_other : (u k t m : ℕ) (us : List Given) → (u ≡ t → ⊥) → packed (parcel u k) (packs_from t m us) ≡ 0
places_other u k t m [] h = refl
places_other u k t m (x ∷ us) h = omega (arith, pack_apart u k t m x.setup (λ a b. h a), places_other u k t (m + 1) us h)

threads_below : (u k t : ℕ) (bs : List Block) → u < t → packed (parcel u k) (packs_for t bs) ≡ 0
threads_below u k t [] lt = refl
threads_below u k t (b ∷ bs) lt =
    omega (
      arith,
      packed_append (parcel u k) (packs_from t 0 b.uses) (packs_for (t + 1) bs),
      places_other u k t 0 b.uses (λ e. omega (arith, lt, e)),
      threads_below u k (t + 1) bs (omega (arith, lt)),
    )

threads_few : (u k t : ℕ) (bs : List Block) → packed (parcel u k) (packs_for t bs) ≤ 1
threads_few u k t [] = omega arith
threads_few u k t (b ∷ bs) = elim (eqb_tells u t) [
  | inl e ↦ omega (
    arith,
    packed_append (parcel u k) (packs_from t 0 b.uses) (packs_for (t + 1) bs),
    places_few u k t 0 b.uses,
    threads_below u k (t + 1) bs (omega (arith, e.1)),
  )
  | inr e ↦ omega (
    arith,
    packed_append (parcel u k) (packs_from t 0 b.uses) (packs_for (t + 1) bs),
    places_other u k t 0 b.uses e.1,
    threads_few u k (t + 1) bs,
  )
]

pub setup_packs_once : (s : Script) (u k : ℕ) → packed (parcel u k) (setup_lines s) ≤ 1
setup_packs_once s u k =
    let xs = statements_in (slice_get s.blocks 0) in
    omega (
      arith,
      packed_append (parcel u k) (map says xs) (packs_for 1 (thread_blocks s)),
      no_packs (parcel u k) (map says xs) (said_pack_nothing xs),
      threads_few u k 1 (thread_blocks s),
    )
