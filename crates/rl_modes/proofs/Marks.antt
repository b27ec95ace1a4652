-- The places of what has one mark, in a list that gets or loses an element. Two lists in different orders that tell
-- the same places of each mark still do so after both get or lose the same.
use Rattle.std.proofs.Common.{◌≡◌, ℕ, suc, ◌<◌, Bool, true, false, eqb, ltb, List, [], ◌∷◌, ◌++◌, length, get_or, take, drop, map, refl, sym, ap, ◌∙◌, ⊎_elim, append-nil}
use Rattle.std.proofs.Math.Seq.{drop-cons}
use Rattle.std.specs.List.{insert, remove, filter, list_all, list_any}
use Rattle.std.proofs.lemmas.Bool.{cases_Bool, and_parts, and_from, or_parts, or_from, eqb-true, eq-eqb}
use Rattle.std.proofs.lemmas.List.{map-append, take-append-drop, drop_at}
use Rattle.std.proofs.lemmas.List.Elements.{filter-append}
use Rattle.rl_base.specs.declared.places.Place.{Place}
use Rattle.rl_base.specs.Modes.{rank}
use Rattle.rl_modes.specs.Fields.{IsCut, places_marked}
use Rattle.rl_modes.proofs.Cuts.{filter_with, filter_but, filter_kept, filter_gone, front_all, rest_none}

abbrev lower : ℕ → Place → Bool
lower r q = ltb (rank q) r

-- places parted into those of lower rank and the others
record Parts (r : ℕ) (ps front rest : List Place) : Type 0 where
  pub whole : ps ≡ front ++ rest
  pub low : list_all (lower r) front ≡ true
  pub high : list_any (lower r) rest ≡ false

front_is : (r : ℕ) (ps front rest : List Place) → Parts r ps front rest → filter (lower r) ps ≡ front
front_is r ps front rest parts =
    rw parts.whole (rw (filter-append (lower r) front rest) (rw (
      filter_kept (lower r) front parts.low,
      filter_gone
          (lower r) rest parts.high,
    ) (append-nil front)))

rest_is : (r : ℕ) (ps front rest : List Place) → Parts r ps front rest → drop (length (filter (lower r) ps)) ps ≡ rest
rest_is r ps front rest parts = rw (front_is r ps front rest parts) (rw parts.whole
    (drop_at front rest (length front) refl))

same_front : (r : ℕ) (ps f g q s : List Place) → Parts r ps f q → Parts r ps g s → f ≡ g
same_front r ps f g q s one other = sym (front_is r ps f q one) ∙ front_is r ps g s other

same_rest : (r : ℕ) (ps f g q s : List Place) → Parts r ps f q → Parts r ps g s → q ≡ s
same_rest r ps f g q s one other = sym (rest_is r ps f q one) ∙ rest_is r ps g s other

module _ {A : Type 0} (mark : A → ℕ) (place : A → Place) where
  pub marked_append : (i : ℕ) (xs ys : List A)
      → places_marked mark place i (xs ++ ys) ≡ places_marked mark place i xs ++ places_marked mark place i ys
  marked_append i xs ys = rw (filter-append (λ x. eqb (mark x) i) xs ys)
      (map-append place (filter (λ x. eqb (mark x) i) xs) (filter (λ x. eqb (mark x) i) ys))

  marked_with : (i : ℕ) (xs ys : List A) (x : A) → mark x ≡ i
      → places_marked mark place i (xs ++ x ∷ ys) ≡ places_marked mark place i xs ++ place x ∷ places_marked mark
      place i ys
  marked_with i xs ys x e = rw (filter_with (λ x. eqb (mark x) i) xs ys x (eq-eqb (mark x) i e))
      (map-append place (filter (λ x. eqb (mark x) i) xs) (x ∷ filter (λ x. eqb (mark x) i) ys))

  marked_but : (i : ℕ) (xs ys : List A) (x : A) → eqb (mark x) i ≡ false
      → places_marked mark place i (xs ++ x ∷ ys) ≡ places_marked mark place i (xs ++ ys)
  marked_but i xs ys x e = ap (map place) (filter_but (λ x. eqb (mark x) i) xs ys x e)

  module _ (before : A → Bool) (i r : ℕ) (agree : (x : A) → mark x ≡ i → before x ≡ ltb (rank (place x)) r) where
    front_low : (xs : List A) → list_all before xs ≡ true → list_all (lower r) (places_marked mark place i xs) ≡ true
    front_low [] h = refl
    front_low (x ∷ xs) h =
        let both = and_parts (before x) (list_all before xs) h in
        ⊎_elim (λ t. rw t (and_from _ _ (sym (agree x (eqb-true (mark x) i t)) ∙ both.0) (front_low xs both.1)))
        (λ f. rw f (front_low xs both.1)) (cases_Bool (eqb (mark x) i))

    rest_high : (xs : List A) → list_any before xs ≡ false → list_any (lower r) (places_marked mark place i xs) ≡ false
    rest_high [] h = refl
    rest_high (x ∷ xs) h =
        let both = or_parts (before x) (list_any before xs) h in
        ⊎_elim (λ t. rw t (or_from _ _ (sym (agree x (eqb-true (mark x) i t)) ∙ both.0) (rest_high xs both.1)))
        (λ f. rw f (rest_high xs both.1)) (cases_Bool (eqb (mark x) i))

    parted : (xs : List A) (k : ℕ) → IsCut before xs k
        → Parts r (places_marked mark place i xs) (places_marked mark place i (take k xs))
        (places_marked mark place i (drop k xs))
    parted xs k cut = record {
      whole = ap (places_marked mark place i) (sym (take-append-drop k xs)) ∙ marked_append i (take k xs) (drop k xs);
      low = front_low (take k xs) (front_all before xs k cut);
      high = rest_high (drop k xs) (rest_none before xs k cut);
    }

-- a test parts the list, and says of what has the mark whether its place is of lower rank
pub record Reads {A : Type 0} (mark : A → ℕ) (place : A → Place) (before : A → Bool) (i r : ℕ) (xs : List A) (k : ℕ) :
    Type 0 where
  pub agree : (x : A) → mark x ≡ i → before x ≡ ltb (rank (place x)) r
  pub cut : IsCut before xs k

module _ {A B : Type 0} (mark : A → ℕ) (place : A → Place) (before : A → Bool) (mark' : B → ℕ) (place' : B → Place) (before' : B → Bool) where
  module _ (i r : ℕ) (xs : List A) (k : ℕ) (ys : List B) (l : ℕ) (one : Reads mark place before i r xs k) (other : Reads mark' place' before' i r ys l) (same : (j : ℕ) → places_marked mark place j xs ≡ places_marked mark' place' j ys) where
    parts' : Parts r (places_marked mark place i xs) (places_marked mark' place' i (take l ys))
        (places_marked mark' place' i (drop l ys))
    parts' = let parts = parted mark' place' before' i r other.agree ys l other.cut in record {
      whole = same i
          ∙ parts.whole;
      low = parts.low;
      high = parts.high;
    }

    fronts : places_marked mark place i (take k xs) ≡ places_marked mark' place' i (take l ys)
    fronts = same_front r _ _ _ _ _ (parted mark place before i r one.agree xs k one.cut) parts'

    rests : places_marked mark place i (drop k xs) ≡ places_marked mark' place' i (drop l ys)
    rests = same_rest r _ _ _ _ _ (parted mark place before i r one.agree xs k one.cut) parts'

    -- both get an element of that mark and of one place
    pub alike_with : (x : A) (y : B) → mark x ≡ i → mark' y ≡ i → place x ≡ place' y → (j : ℕ)
        → places_marked mark place j (insert xs k x) ≡ places_marked mark' place' j (insert ys l y)
    alike_with x y mx my p j =
        ⊎_elim
        (λ t. let e : i ≡ j = sym mx ∙ eqb-true (mark x) j t in
        rw (← e) (marked_with mark place i (take k xs) (drop k xs) x mx ∙ (rw (fronts, rests, p)
        (sym (marked_with mark' place' i (take l ys) (drop l ys) y my)))))
        (λ f. let g : eqb (mark' y) j ≡ false = rw my (rw mx at f) in
        rw (
          marked_but mark place j (take k xs) (drop k xs) x f,
          marked_but mark' place' j (take l ys) (drop l ys) y
              g,
          take-append-drop k xs,
          take-append-drop l ys,
        ) (same j))
        (cases_Bool (eqb (mark x) j))

    -- both lose one
    pub alike_without : (d : A) (e : B) → k < length xs → l < length ys → mark (get_or xs k d) ≡ i
        → mark' (get_or ys l e) ≡ i → (j : ℕ)
        → places_marked mark place j (remove xs k) ≡ places_marked mark' place' j (remove ys l)
    alike_without d e kl ll mx my j =
        ⊎_elim
        (λ t. let f : i ≡ j = sym mx ∙ eqb-true (mark (get_or xs k d)) j t in
        rw (← f) (marked_append mark place i (take k xs) (drop (suc k) xs) ∙ (rw (fronts, tails)
        (sym (marked_append mark' place' i (take l ys) (drop (suc l) ys))))))
        (λ f. let g : eqb (mark' (get_or ys l e)) j ≡ false = rw my (rw mx at f) in
        sym (unmarked mark place xs k d kl f) ∙ (same j ∙ unmarked mark' place' ys l e ll g))
        (cases_Bool (eqb (mark (get_or xs k d)) j))
      where
        heads : place (get_or xs k d) ∷ places_marked mark place i (drop (suc k) xs) ≡ place' (get_or ys l e)
            ∷ places_marked mark' place' i (drop (suc l) ys)
        heads = sym (marked_with mark place i [] (drop (suc k) xs) (get_or xs k d) mx)
            ∙ (ap (places_marked mark place i) (sym (drop-cons xs k d kl)) ∙ (rests
            ∙ (ap (places_marked mark' place' i) (drop-cons ys l e ll) ∙ marked_with mark' place' i []
            (drop (suc l) ys) (get_or ys l e) my)))

        tails : places_marked mark place i (drop (suc k) xs) ≡ places_marked mark' place' i (drop (suc l) ys)
        tails = ap (drop 1) heads

        unmarked : {C : Type 0} (m : C → ℕ) (q : C → Place) (zs : List C) (n : ℕ) (z : C) → n < length zs
            → eqb (m (get_or zs n z)) j ≡ false → places_marked m q j zs ≡ places_marked m q j (remove zs n)
        unmarked m q zs n z lt f = ap (places_marked m q j) (sym (take-append-drop n zs) ∙ ap
            (λ rest. take n zs ++ rest) (drop-cons zs n z lt)) ∙ marked_but m q j (take n zs) (drop (suc n) zs)
            (get_or zs n z) f
