-- Laws for callers: what the words on lists give at a place, and what an edit gives round one.
use Rattle.std.proofs.Common.{length, zero-add, ◌≡◌, ◌≢◌, ℕ, zero, suc, ◌+◌, true, false, eqb, List, [], ◌∷◌, ◌++◌, Option, Some, None, refl, sym, ap, ◌∙◌, arith, inl, inr}
use Rattle.std.specs.List.{slice_get}
use Rattle.std.proofs.lemmas.Option.{slice_get_within}
use Rattle.std.proofs.lemmas.Bool.{cases_eq, eq-eqb, ne_eqb, false≢true, false_from_ne_true, or_parts}
use Rattle.std.proofs.lemmas.Map.Keys.{any_passes_from_place}
use Rattle.cf_links.specs.Lists.{Lists, nodes_of, is_in, list_of, node_after, node_before, next_of, prev_of, put_before, put_after, without, IsValid}
use Rattle.cf_links.proofs.Edits.{list_of_is, list_of_none, put_before_none, put_after_none, without_none}

-- a node that is in has a place, and a node with a place is in
pub place_from_in : (n : ℕ) (ns : List ℕ) → is_in n ns ≡ true → (i : ℕ) × (slice_get ns i ≡ Some n)
place_from_in n [] among = absurd (false≢true among)
place_from_in n (m ∷ ms) among =
    elim (cases_eq n m) [
      | inl same ↦ (0, ap Some (sym same))
      | inr differs ↦ let later = place_from_in n ms (rw (ne_eqb n m differs) at among) in (suc later.0, later.1)
    ]

pub in_from_place : (n : ℕ) (ns : List ℕ) (i : ℕ) → slice_get ns i ≡ Some n → is_in n ns ≡ true
in_from_place n ns i found = any_passes_from_place (eqb n) ns i n found (eq-eqb n n refl)

node_after_place : (n : ℕ) (ns : List ℕ) (i : ℕ) → slice_get ns i ≡ Some n
    → ((j : ℕ) → slice_get ns j ≡ Some n → j ≡ i)
    → node_after n ns ≡ slice_get ns (suc i)
node_after_place n [] i found once = absurd (cc)
node_after_place n (m ∷ ms) zero found once = let here : m ≡ n = cc in rw (eq-eqb n m (sym here)) refl
node_after_place n (m ∷ ms) (suc i) found once =
    rw (ne_eqb n m (λ e. absurd (omega (arith, once 0 (ap Some (sym e))))))
    (node_after_place n ms i found (λ j there. omega (arith, once (suc j) there)))

-- the node at the place before i, where `front` comes before them all
place_before : Option ℕ → List ℕ → ℕ → Option ℕ
place_before front ns zero = front
place_before front ns (suc i) = slice_get ns i

node_before_place : (front : Option ℕ) (n : ℕ) (ns : List ℕ) (i : ℕ) → slice_get ns i ≡ Some n
    → ((j : ℕ) → slice_get ns j ≡ Some n → j ≡ i) → node_before front n ns ≡ place_before front ns i
unfolding place_before
node_before_place front n [] i found once = absurd (cc)
node_before_place front n (m ∷ ms) zero found once = let here : m ≡ n = cc in rw (eq-eqb n m (sym here)) refl
node_before_place front n (m ∷ ms) (suc i) found once =
    rw (ne_eqb n m (λ e. absurd (omega (arith, once 0 (ap Some (sym e))))))
    (node_before_place (Some m) n ms i found (λ j there. omega (arith, once (suc j) there)) ∙ shifted m ms i)
  where
    shifted : (m : ℕ) (ms : List ℕ) (i : ℕ) → place_before (Some m) ms i ≡ slice_get (m ∷ ms) i
    shifted m ms zero = refl
    shifted m ms (suc i) = refl

module _ {T : Type 0} (s : Lists T) (valid : IsValid s) (l i n : ℕ) where
  once : slice_get (nodes_of s.lists l) i ≡ Some n → (j : ℕ) → slice_get (nodes_of s.lists l) j ≡ Some n → j ≡ i
  once here j there = (valid.one_place l l j i n there here).1

  -- a node is in the list in which it has a place
  pub list_of_place : slice_get (nodes_of s.lists l) i ≡ Some n → list_of s.lists n ≡ Some l
  list_of_place here =
      list_of_is s.lists n l (in_from_place n (nodes_of s.lists l) i here) (λ k apart.
      false_from_ne_true (is_in n (nodes_of s.lists k)) (λ among.
      let there = place_from_in n (nodes_of s.lists k) among in
      apart (valid.one_place k l there.0 i n there.1 here).0))

  -- the node after it is at the next place
  pub next_of_place : slice_get (nodes_of s.lists l) i ≡ Some n
      → next_of s.lists n ≡ slice_get (nodes_of s.lists l) (suc i)
  next_of_place here = rw (list_of_place here) (node_after_place n (nodes_of s.lists l) i here (once here))

  prev_at : slice_get (nodes_of s.lists l) i ≡ Some n → prev_of s.lists n ≡ place_before None (nodes_of s.lists l) i
  prev_at here = rw (list_of_place here) (node_before_place None n (nodes_of s.lists l) i here (once here))

-- the node before one is at the place before, and none is before the first
pub prev_of_place : {T : Type 0} (s : Lists T) (valid : IsValid s) (l i n : ℕ)
    → slice_get (nodes_of s.lists l) (suc i) ≡ Some n → prev_of s.lists n ≡ slice_get (nodes_of s.lists l) i
unfolding place_before
prev_of_place s valid l i n here = prev_at s valid l (suc i) n here

pub prev_of_first : {T : Type 0} (s : Lists T) (valid : IsValid s) (l n : ℕ)
    → slice_get (nodes_of s.lists l) 0 ≡ Some n
    → prev_of s.lists n ≡ None
unfolding place_before
prev_of_first s valid l n here = prev_at s valid l 0 n here

-- a node that has a place in no list is in none
pub list_of_outside : (lists : List (List ℕ)) (n : ℕ) → ((l i : ℕ) → slice_get (nodes_of lists l) i ≢ Some n)
    → list_of lists n ≡ None
list_of_outside lists n outside =
    list_of_none lists n (λ l. false_from_ne_true (is_in n (nodes_of lists l)) (λ among.
    let there = place_from_in n (nodes_of lists l) among in outside l there.0 there.1))

-- ---- an edit round a node that comes once
pub put_before_at : (at n : ℕ) (front back : List ℕ) → is_in at front ≡ false → is_in at back ≡ false
    → put_before at n (front ++ at ∷ back) ≡ front ++ n ∷ at ∷ back
put_before_at at n [] back before after = rw (eq-eqb at at refl, put_before_none at n back after) refl
put_before_at at n (m ∷ ms) back before after =
    let parts = or_parts (eqb at m) (is_in at ms) before in
    rw (parts.0, put_before_at at n ms back parts.1 after) refl

pub put_after_at : (at n : ℕ) (front back : List ℕ) → is_in at front ≡ false → is_in at back ≡ false
    → put_after at n (front ++ at ∷ back) ≡ front ++ at ∷ n ∷ back
put_after_at at n [] back before after = rw (eq-eqb at at refl, put_after_none at n back after) refl
put_after_at at n (m ∷ ms) back before after =
    let parts = or_parts (eqb at m) (is_in at ms) before in
    rw (parts.0, put_after_at at n ms back parts.1 after) refl

pub without_at : (n : ℕ) (front back : List ℕ) → is_in n front ≡ false → is_in n back ≡ false
    → without n (front ++ n ∷ back) ≡ front ++ back
without_at n [] back before after = rw (eq-eqb n n refl) (without_none n back after)
without_at n (m ∷ ms) back before after =
    let parts = or_parts (eqb n m) (is_in n ms) before in
    rw (parts.0, without_at n ms back parts.1 after) refl

slice_get_front : (front back : List ℕ) (i n : ℕ) → slice_get front i ≡ Some n → slice_get (front ++ back) i ≡ Some n
slice_get_front [] back i n found = absurd (cc)
slice_get_front (m ∷ ms) back zero n found = found
slice_get_front (m ∷ ms) back (suc i) n found = slice_get_front ms back i n found

slice_get_back : (front back : List ℕ) (i : ℕ) → slice_get (front ++ back) (length front + i) ≡ slice_get back i
slice_get_back [] back i = rw zero-add refl
slice_get_back (m ∷ ms) back i =
    let shift : suc (length ms) + i ≡ suc (length ms + i) = omega arith in
    rw shift (slice_get_back ms back i)

-- the other nodes of a list are not n
pub split_apart : {T : Type 0} (s : Lists T) (valid : IsValid s) (l n : ℕ) (front back : List ℕ)
    → nodes_of s.lists l ≡ front ++ n ∷ back → (is_in n front ≡ false) × (is_in n back ≡ false)
split_apart s valid l n front back split =
    let here : slice_get (nodes_of s.lists l) (length front + 0) ≡ Some n =
    rw split (slice_get_back front (n ∷ back) 0) in (
      false_from_ne_true (is_in n front) (λ among.
          let place = place_from_in n front among in
          let there : slice_get (nodes_of s.lists l) place.0 ≡ Some n =
          rw split (slice_get_front front (n ∷ back) place.0 n place.1) in
          absurd (omega (arith, slice_get_within front place.0 n place.1, (valid.one_place l l _ _ n here there).1))),
      false_from_ne_true (is_in n back) (λ among.
          let place = place_from_in n back among in
          let there : slice_get (nodes_of s.lists l) (length front + suc place.0) ≡ Some n =
          rw split (slice_get_back front (n ∷ back) (suc place.0) ∙ place.1) in
          absurd (omega (arith, (valid.one_place l l _ _ n here there).1))),
    )
