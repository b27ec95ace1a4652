-- Lemmas on lists of nodes and on edits of them.
use Rattle.std.proofs.Common.{◌≡◌, ◌≢◌, ℕ, zero, suc, ◌<◌, true, false, eqb, List, [], ◌∷◌, map, length, Option, Some, None, refl, sym, ◌∙◌, arith, inl, inr}
use Rattle.std.proofs.lemmas.Bool.{cases_eq, cases_lt, cases_Bool, eq-eqb, ne_eqb, false≢true, or_right, or_parts, lt-ltb, le-ltb}
use Rattle.std.proofs.lemmas.List.{get_or_past}
use Rattle.std.proofs.lemmas.List.Sums.{position_or_len_is}
use Rattle.std.specs.Option.{option_and_then}
use Rattle.cf_links.specs.Lists.{is_in, node_before, put_before, put_after, without, nodes_of, list_of, prev_of}

-- an edit of each list, which leaves no nodes if there are none
pub nodes_of-map : (f : List ℕ → List ℕ) → f [] ≡ [] → (lists : List (List ℕ)) (l : ℕ)
    → nodes_of (map f lists) l ≡ f (nodes_of lists l)
nodes_of-map f none [] l = sym none
nodes_of-map f none (ns ∷ rest) zero = refl
nodes_of-map f none (ns ∷ rest) (suc l) = nodes_of-map f none rest l

-- a list that has a node was made
pub made_from_in : (lists : List (List ℕ)) (l n : ℕ) → is_in n (nodes_of lists l) ≡ true → l < length lists
made_from_in lists l n among =
    elim (cases_lt l (length lists)) [
      | inl within ↦ within
      | inr past ↦ absurd (false≢true (rw (get_or_past lists l [] past) at among))
    ]

-- an edit at a node does nothing if that node is not
pub put_before_none : (at n : ℕ) (ns : List ℕ) → is_in at ns ≡ false → put_before at n ns ≡ ns
put_before_none at n [] none = refl
put_before_none at n (m ∷ ms) none =
    let parts = or_parts (eqb at m) (is_in at ms) none in
    rw (parts.0, put_before_none at n ms parts.1) refl

pub put_after_none : (at n : ℕ) (ns : List ℕ) → is_in at ns ≡ false → put_after at n ns ≡ ns
put_after_none at n [] none = refl
put_after_none at n (m ∷ ms) none =
    let parts = or_parts (eqb at m) (is_in at ms) none in
    rw (parts.0, put_after_none at n ms parts.1) refl

pub without_none : (n : ℕ) (ns : List ℕ) → is_in n ns ≡ false → without n ns ≡ ns
without_none n [] none = refl
without_none n (m ∷ ms) none =
    let parts = or_parts (eqb n m) (is_in n ms) none in
    rw (parts.0, without_none n ms parts.1) refl

-- the node that comes in is in
pub is_in-put_before : (at n : ℕ) (ns : List ℕ) → is_in at ns ≡ true → is_in n (put_before at n ns) ≡ true
is_in-put_before at n [] among = absurd (false≢true among)
is_in-put_before at n (m ∷ ms) among =
    elim (cases_Bool (eqb at m)) [
      | inl hit ↦ rw (hit, eq-eqb n n refl) refl
      | inr miss ↦ rw miss (or_right (eqb n m) _ (is_in-put_before at n ms (rw miss at among)))
    ]

-- a node that stays is in
pub is_in-without : (n k : ℕ) (ns : List ℕ) → k ≢ n → is_in k ns ≡ true → is_in k (without n ns) ≡ true
is_in-without n k [] apart among = absurd (false≢true among)
is_in-without n k (m ∷ ms) apart among =
    elim (cases_eq k m) [
      | inl same ↦ rw (ne_eqb n m (λ e. apart (same ∙ sym e)), eq-eqb k m same) refl
      | inr differs ↦
          let later = is_in-without n k ms apart (rw (ne_eqb k m differs) at among) in
          elim (cases_Bool (eqb n m)) [
            | inl hit ↦ rw hit later
            | inr miss ↦ rw miss (or_right (eqb k m) _ later)
          ]
    ]

-- a node is in the one list whose nodes it is among
pub list_of_is : (lists : List (List ℕ)) (n l : ℕ) → is_in n (nodes_of lists l) ≡ true
    → ((k : ℕ) → k ≢ l → is_in n (nodes_of lists k) ≡ false) → list_of lists n ≡ Some l
list_of_is lists n l among others =
    let within = made_from_in lists l n among in
    let first = position_or_len_is (is_in n) lists l [] (omega arith) (λ k below. others k (omega arith))
    (λ _. among) in
    rw (first, lt-ltb l (length lists) within) refl

pub list_of_none : (lists : List (List ℕ)) (n : ℕ) → ((k : ℕ) → is_in n (nodes_of lists k) ≡ false)
    → list_of lists n ≡ None
list_of_none lists n others =
    let first = position_or_len_is (is_in n) lists (length lists) [] (omega arith) (λ k below. others k)
    (λ within. absurd (omega arith)) in
    rw (first, le-ltb (length lists) (length lists) (omega arith)) refl

-- no node comes before itself
node_before_other : (front : Option ℕ) (n : ℕ) (ns : List ℕ) → front ≢ Some n → node_before front n ns ≢ Some n
node_before_other front n [] apart = λ same. absurd (cc)
node_before_other front n (m ∷ ms) apart =
    elim (cases_eq n m) [
      | inl same ↦ rw (eq-eqb n m same) apart
      | inr differs ↦ rw (ne_eqb n m differs) (node_before_other (Some m) n ms
          (λ e. differs (let here : m ≡ n = cc in sym here)))
    ]

pub prev_of_other : (lists : List (List ℕ)) (n : ℕ) → prev_of lists n ≢ Some n
prev_of_other lists n = by_list (list_of lists n)
  where
    by_list : (o : Option ℕ) → option_and_then (λ l. node_before None n (nodes_of lists l)) o ≢ Some n
    by_list None = λ same. absurd (cc)
    by_list (Some l) = node_before_other None n (nodes_of lists l) (λ e. absurd (cc))
