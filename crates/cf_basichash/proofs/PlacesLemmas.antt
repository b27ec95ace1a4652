-- What stands in the places of an index where one is written, how a row is put in, and what a search that meets an
-- empty place tells.
use Rattle.std.proofs.Common.{◌≡◌, ◌≢◌, ℕ, zero, suc, ◌+◌, ◌-◌, ◌%◌, ◌<◌, ◌≤◌, ◌⊎◌, inl, inr, List, [], ◌∷◌, ◌++◌, length, get_or, set, take, replicate, refl, sym, ap, ◌∙◌, subst, arith, length-append, length-set}
use Rattle.std.proofs.Math.Seq.{take-suc}
use Rattle.std.proofs.lemmas.Bool.{cases_lt}
use Rattle.std.proofs.lemmas.Bool.Decides.{nat_tests}
use Rattle.std.proofs.lemmas.List.{get_or-set_same, get_or-set_other, get_or-replicate, get_or_past, length-replicate, length-take-le}
use Rattle.std.specs.Int.{IsPowerOfTwo}
use Rattle.cf_basichash.specs.Places.{steps, IsNext, hit, copies, home_at, IsReached, IsIndex, IsIndexWithin, IsPut}
use Rattle.cf_basichash.proofs.StepsLemmas.{same_or_not, steps_same, steps_none, all_round, along, nearer}

-- a number is the one that is meant, or not
pub hit_same : (m x : ℕ) → x ≡ m → hit m x ≡ 1
unfolding hit
hit_same m x e = grind (arith, nat_tests)

pub hit_other : (m x : ℕ) → x ≢ m → hit m x ≡ 0
unfolding hit
hit_other m x o = grind (arith, nat_tests)

-- how often a number stands there after another is written
pub copies-set : (m : ℕ) (xs : List ℕ) (p v : ℕ) → p < length xs
    → copies m (set xs p v) + hit m (get_or xs p 0) ≡ copies m xs + hit m v
unfolding copies
copies-set m [] p v within = absurd (omega arith)
copies-set m (x ∷ xs) zero v within = omega arith
copies-set m (x ∷ xs) (suc p) v within = let rest = copies-set m xs p v (omega arith) in omega arith

-- a place where a number stands
pub record At (m : ℕ) (xs : List ℕ) : Type 0 where
  pub place : ℕ
  pub within : place < length xs
  pub there : get_or xs place 0 ≡ m

pub has_place : (m : ℕ) (xs : List ℕ) → 0 < copies m xs → At m xs
unfolding copies
has_place m [] some = absurd (omega arith)
has_place m (x ∷ xs) some =
    elim (same_or_not x m) [
      | inl e ↦ record { place = zero; within = omega arith; there = e }
      | inr o ↦ (let rest = has_place m xs (omega (arith, hit_other m x o)) in record
          { place = suc rest.place; within = omega arith; there = rest.there })
    ]

pub is_copied : (m : ℕ) (xs : List ℕ) (p : ℕ) → p < length xs → get_or xs p 0 ≡ m → 0 < copies m xs
unfolding copies
is_copied m [] p within there = absurd (omega arith)
is_copied m (x ∷ xs) zero within there = omega (arith, hit_same m x there)
is_copied m (x ∷ xs) (suc p) within there = let rest = is_copied m xs p (omega arith) there in omega arith

-- past the last place stands nothing
pub full_within : (xs : List ℕ) (p : ℕ) → 0 < get_or xs p 0 → p < length xs
full_within xs p full =
    elim (cases_lt p (length xs)) [ inl lt ↦ lt | inr ge ↦ absurd (omega (arith, get_or_past xs p 0 ge)) ]

-- v was written at place p
pub record Wrote (old new : List ℕ) (p v : ℕ) : Type 0 where
  pub size : length new ≡ length old
  pub at : (q : ℕ) → ((q ≡ p) × (get_or new q 0 ≡ v)) ⊎ ((q ≢ p) × (get_or new q 0 ≡ get_or old q 0))
  pub count : (m : ℕ) → copies m new + hit m (get_or old p 0) ≡ copies m old + hit m v

at_set : (xs : List ℕ) (p v q : ℕ) → p < length xs → (q ≡ p) ⊎ (q ≢ p)
    → ((q ≡ p) × (get_or (set xs p v) q 0 ≡ v)) ⊎ ((q ≢ p) × (get_or (set xs p v) q 0 ≡ get_or xs q 0))
at_set xs p v q within (inl e) = inl (e, ap (λ (k : ℕ). get_or (set xs p v) k 0) e ∙ get_or-set_same xs p v 0 within)
at_set xs p v q within (inr o) = inr (o, get_or-set_other xs p q v 0 o)

pub wrote : (old new : List ℕ) (p v : ℕ) → p < length old → new ≡ set old p v → Wrote old new p v
wrote old new p v within e =
    subst (λ (l : List ℕ). Wrote old l p v) (sym e) (record {
      size = length-set old p v;
      at = λ q. at_set old p v q within (same_or_not q p);
      count = λ m. copies-set m old p v within;
    })

-- what is reached stays so where no place becomes empty
pub is_reached_by : (old new : List ℕ) (h k p : ℕ) → length new ≡ length old → k ≡ h
    → ((x : ℕ) → 0 < get_or old x 0 → 0 < get_or new x 0) → IsReached old h p → IsReached new k p
is_reached_by old new h k p size e keeps r =
    let family : ℕ → Type 0 = λ n. (x : ℕ) → x < n → steps n k x < steps n k p → 0 < get_or new x 0 in
    record {
      full = subst family (sym size) (subst (λ (j : ℕ). (x : ℕ) → x < length old → steps (length old) j x < steps
          (length old) j p → 0 < get_or new x 0) (sym e) (λ x in_old lt. keeps x (r.full x in_old lt)));
    }

-- a list with one more at the end
pub get_before : (xs : List ℕ) (v i : ℕ) → i < length xs → get_or (xs ++ v ∷ []) i 0 ≡ get_or xs i 0
get_before [] v i within = absurd (omega arith)
get_before (x ∷ xs) v zero within = refl
get_before (x ∷ xs) v (suc i) within = get_before xs v i (omega arith)

get_last_at : (xs : List ℕ) (v i : ℕ) → i ≡ length xs → get_or (xs ++ v ∷ []) i 0 ≡ v
get_last_at [] v zero e = refl
get_last_at [] v (suc i) e = absurd (omega arith)
get_last_at (x ∷ xs) v zero e = absurd (omega arith)
get_last_at (x ∷ xs) v (suc i) e = get_last_at xs v i (omega arith)

-- no row, and no place that is not empty
none_copied : (xs : List ℕ) → ((p : ℕ) → get_or xs p 0 ≡ 0) → copies 0 xs ≡ length xs
unfolding copies
none_copied [] zeros = refl
none_copied (x ∷ xs) zeros =
    let rest = none_copied xs (λ p. zeros (suc p)) in
    let first : x ≡ 0 = zeros zero in
    omega (arith, hit_same 0 x first)

zeros_at : (n p : ℕ) → get_or {A = ℕ} (replicate n 0) p 0 ≡ 0
zeros_at n p =
    elim (cases_lt p n) [
      | inl lt ↦ get_or-replicate n p 0 0 lt
      | inr ge ↦ get_or_past (replicate n 0) p 0 (rw length-replicate ge)
    ]

pub index_of_none : (n : ℕ) → IsIndex [] (replicate n 0)
index_of_none n = record {
  once = λ r below. absurd (omega arith);
  empty = omega (arith, none_copied (replicate n 0) (zeros_at n));
  ways = record {
    known = λ p. omega (arith, zeros_at n p);
    reached = λ p full. absurd (omega (arith, zeros_at n p));
  };
}

-- a row is put in
module _ (hashes old new : List ℕ) (h : ℕ) (index : IsIndex hashes old)
    (put : IsPut old new (h % length old) (length hashes + 1)) where
  written : Wrote old new put.place (length hashes + 1)
  written = wrote old new put.place (length hashes + 1) put.first.within put.put

  keeps_full : (x : ℕ) → 0 < get_or old x 0 → 0 < get_or new x 0
  keeps_full x full = omega (arith, written.at x)

  more : length (hashes ++ h ∷ []) ≡ length hashes + 1
  more = length-append hashes (h ∷ [])

  put_once : (r : ℕ) → r < length (hashes ++ h ∷ []) → (r < length hashes) ⊎ (length hashes ≤ r) → copies (r + 1)
      new ≡ 1
  put_once r below (inl lt) =
      omega (
        arith,
        written.count (r + 1),
        index.once r lt,
        hit_other (r + 1) (get_or old put.place 0)
            (omega (arith, put.first.there)),
        hit_other (r + 1) (length hashes + 1) (omega arith),
      )
  put_once r below (inr ge) =
      let none : copies (r + 1) old ≡ 0 = elim (cases_lt 0 (copies (r + 1) old)) [
        | inl some ↦ (let at = has_place (r + 1) old some in absurd
            (omega (arith, index.ways.known at.place, at.there)))
        | inr ge ↦ omega arith
      ] in
      omega (
        arith,
        written.count (r + 1),
        hit_other (r + 1) (get_or old put.place 0)
            (omega (arith, put.first.there)),
        hit_same (r + 1) (length hashes + 1) (omega (arith, more)),
      )

  home_kept : (p : ℕ) → p ≢ put.place → 0 < get_or new p 0 → home_at (hashes ++ h ∷ []) new p ≡ home_at hashes old p
  home_kept p other full =
      let same : get_or new p 0 ≡ get_or old p 0 = omega (arith, written.at p) in
      let row : get_or new p 0 - 1 ≡ get_or old p 0 - 1 = omega arith in
      let hash : get_or (hashes ++ h ∷ []) (get_or new p 0 - 1) 0 ≡ get_or hashes (get_or old p 0 - 1) 0 =
      ap (λ (i : ℕ). get_or (hashes ++ h ∷ []) i 0) row
      ∙ get_before hashes h (get_or old p 0 - 1) (omega (arith, index.ways.known p)) in
      ap (λ (a : ℕ). a % length new) hash ∙ ap (λ (n : ℕ). get_or hashes (get_or old p 0 - 1) 0 % n) written.size

  home_put : (p : ℕ) → p ≡ put.place → home_at (hashes ++ h ∷ []) new p ≡ h % length old
  home_put p here =
      let row : get_or new p 0 - 1 ≡ length hashes = omega (arith, written.at p) in
      ap (λ (a : ℕ). a % length new) (get_last_at hashes h (get_or new p 0 - 1) row)
      ∙ ap (λ (n : ℕ). h % n) written.size

  put_reached : (p : ℕ) → (p ≡ put.place) ⊎ (p ≢ put.place) → 0 < get_or new p 0
      → IsReached new (home_at (hashes ++ h ∷ []) new p) p
  put_reached p (inl here) full =
      is_reached_by old new (h % length old) (home_at (hashes ++ h ∷ []) new p) p written.size (home_put p here)
      keeps_full (subst (λ (q : ℕ). IsReached old (h % length old) q) (sym here) (record {
        full = λ x within lt. omega (arith, put.first.before x within lt);
      }))
  put_reached p (inr other) full =
      is_reached_by old new (home_at hashes old p) (home_at (hashes ++ h ∷ []) new p) p written.size
      (home_kept p other full) keeps_full (index.ways.reached p (omega (arith, written.at p)))

  pub index_with : IsIndex (hashes ++ h ∷ []) new
  index_with = record {
    once = λ r below. put_once r below (cases_lt r (length hashes));
    empty = omega (
      arith,
      more,
      written.size,
      written.count 0,
      index.empty,
      hit_same 0 (get_or old put.place 0)
          put.first.there,
      hit_other 0 (length hashes + 1) (omega arith),
    );
    ways = record {
      known = λ p. omega (arith, more, written.at p, index.ways.known p);
      reached = λ p full. put_reached p (same_or_not p put.place) full;
    };
  }

-- where an empty place is met, each row with the hash was passed
pub none_left : (hashes places : List ℕ) (h p r : ℕ) (P : ℕ → Type 0) → IsIndex hashes places → p < length places
    → ((x : ℕ) → x < length places
    → steps (length places) (h % length places) x < steps (length places) (h % length places) p
    → P (get_or places x 0))
    → get_or places p 0 ≡ 0 → r < length hashes → get_or hashes r 0 ≡ h → P (r + 1)
none_left hashes places h p r P index p_in passed empty below hash =
    let z = has_place (r + 1) places (omega (arith, index.once r below)) in
    let row : get_or places z.place 0 - 1 ≡ r = omega (arith, z.there) in
    let home : home_at hashes places z.place ≡ h % length places =
    ap (λ (i : ℕ). get_or hashes i 0 % length places) row ∙ ap (λ (a : ℕ). a % length places) hash in
    let way : IsReached places (h % length places) z.place = subst (λ (k : ℕ). IsReached places k z.place) home
    (index.ways.reached z.place (omega (arith, z.there))) in
    elim (cases_lt (steps (length places) (h % length places) z.place) (steps (length places) (h % length places) p)) [
      | inl lt ↦ subst P z.there (passed z.place z.within lt)
      | inr ge ↦ elim (cases_lt (steps (length places) (h % length places) p)
          (steps (length places) (h % length places) z.place)) [
            | inl lt ↦ absurd (omega (arith, way.full p p_in lt))
            | inr le ↦ (let same : p ≡ z.place = steps_same (length places) (h % length places) p z.place (omega arith)
                p_in z.within (omega arith) in absurd (omega (arith, z.there, ap (λ (k : ℕ). get_or places k 0) same)))
          ]
    ]

-- midway to the first place that has a number: the places from the home on up to `place` have others
pub record IsSeeking (places : List ℕ) (home number place : ℕ) : Type 0 where
  pub home_in : home < length places
  pub place_in : place < length places
  pub before : (x : ℕ) → x < length places → steps (length places) home x < steps (length places) home place
      → get_or places x 0 ≢ number

pub seek_from : (places : List ℕ) (home number : ℕ) → home < length places → IsSeeking places home number home
seek_from places home number home_in =
    let none : steps (length places) home home ≡ 0 = steps_none (length places) home (omega arith) in
    record { home_in = home_in; place_in = home_in; before = λ x x_in lt. absurd (omega arith) }

module _ (places : List ℕ) (home number place next : ℕ) (there : 0 < copies number places)
    (s : IsSeeking places home number place) (here : get_or places place 0 ≢ number)
    (turn : IsNext (length places) place next) where
  not_round : next ≢ home
  not_round back =
      let at = has_place number places there in
      all_round (length places) home place next (λ x. get_or places x 0 ≢ number) s.home_in s.place_in turn s.before
      here back at.place at.within at.there

  pub seek_on : IsSeeking places home number next
  seek_on = record {
    home_in = s.home_in;
    place_in = turn.within;
    before = along (length places) home place next (λ x. get_or places x 0 ≢ number) s.home_in s.place_in turn
        s.before here;
  }

  pub seek_nearer : length places - steps (length places) home next < length places - steps (length places) home place
  seek_nearer = nearer (length places) home place next s.home_in s.place_in turn not_round

-- the index of the first rows, where one more is put in
pub index_of_more : (hashes old new : List ℕ) (i h : ℕ) → i < length hashes → h ≡ get_or hashes i 0
    → IsIndex (take i hashes) old → IsPut old new (h % length old) (i + 1) → IsIndex (take (i + 1) hashes) new
index_of_more hashes old new i h below e index put =
    let count : length (take i hashes) ≡ i = length-take-le i hashes (omega arith) in
    let with_h : IsIndex (take i hashes ++ h ∷ []) new = index_with (take i hashes) old new h index
    (subst (λ (m : ℕ). IsPut old new (h % length old) m) (ap (λ (m : ℕ). m + 1) (sym count)) put) in
    let one : i + 1 ≡ suc i = omega arith in
    let more : take (i + 1) hashes ≡ take i hashes ++ h ∷ [] =
    ap (λ (k : ℕ). take k hashes) one ∙ take-suc hashes i 0 below ∙ ap (λ (v : ℕ). take i hashes ++ v ∷ []) (sym e) in
    subst (λ (l : List ℕ). IsIndex l new) (sym more) with_h

-- midway in a search for a key: the places from the home on up to `place` are not empty, and P holds of the row of
-- each
pub record IsPassed (places : List ℕ) (P : ℕ → Type 0) (home place : ℕ) : Type 0 where
  pub home_in : home < length places
  pub place_in : place < length places
  pub before : (x : ℕ) → x < length places → steps (length places) home x < steps (length places) home place
      → (0 < get_or places x 0) × P (get_or places x 0)

pub passed_none : (places : List ℕ) (P : ℕ → Type 0) (home : ℕ) → home < length places → IsPassed places P home home
passed_none places P home home_in =
    let none : steps (length places) home home ≡ 0 = steps_none (length places) home (omega arith) in
    record { home_in = home_in; place_in = home_in; before = λ x x_in lt. absurd (omega arith) }

pub passed_from : (places : List ℕ) (P : ℕ → Type 0) (home place : ℕ) → place < length places → place ≡ home
    → IsPassed places P home place
passed_from places P home place within e =
    subst (λ (p : ℕ). IsPassed places P home p) (sym e) (passed_none places P home (omega arith))

-- some place is empty
pub free_of : (hashes places : List ℕ) → IsIndex hashes places → length hashes < length places → 0 < copies 0 places
free_of hashes places index larger = omega (arith, index.empty)

module _ (places : List ℕ) (P : ℕ → Type 0) (home place next : ℕ) (free : 0 < copies 0 places)
    (s : IsPassed places P home place) (full : 0 < get_or places place 0) (here : P (get_or places place 0))
    (turn : IsNext (length places) place next) where
  pass_not_round : next ≢ home
  pass_not_round back =
      let at = has_place 0 places free in
      let full_at : (0 < get_or places at.place 0) × P (get_or places at.place 0) =
      all_round (length places) home place next (λ x. (0 < get_or places x 0) × P (get_or places x 0)) s.home_in
      s.place_in turn s.before (full, here) back at.place at.within in
      omega (arith, full_at.0, at.there)

  pub pass_on : IsPassed places P home next
  pass_on = record {
    home_in = s.home_in;
    place_in = turn.within;
    before = along (length places) home place next (λ x. (0 < get_or places x 0) × P (get_or places x 0)) s.home_in
        s.place_in turn s.before (full, here);
  }

  pub pass_nearer : length places - steps (length places) home next < length places - steps (length places) home place
  pass_nearer = nearer (length places) home place next s.home_in s.place_in turn pass_not_round

-- the places have the first rows
pub record IsIndexSoFar (hashes places : List ℕ) (count row : ℕ) : Type 0 where
  pub size : length places ≡ count
  pub index : IsIndex (take row hashes) places

pub so_far_none : (hashes places : List ℕ) (count : ℕ) → places ≡ replicate count 0 → IsIndexSoFar hashes places
    count 0
so_far_none hashes places count e =
    subst (λ (l : List ℕ). IsIndexSoFar hashes l count 0) (sym e) (record {
      size = length-replicate count 0;
      index = index_of_none count;
    })

pub so_far_more : (hashes old new : List ℕ) (count i home h : ℕ) → IsIndexSoFar hashes old count i
    → i < length hashes → h ≡ get_or hashes i 0 → home ≡ h % count → IsPut old new home (i + 1)
    → IsIndexSoFar hashes new count (i + 1)
so_far_more hashes old new count i home h s below e at put = record {
  size = ap length put.put ∙ length-set old put.place (i + 1) ∙ s.size;
  index = index_of_more hashes old new i h below e s.index
      (subst (λ (k : ℕ). IsPut old new k (i + 1)) (at ∙ ap (λ (n : ℕ). h % n) (sym s.size)) put);
}

pub so_far_free : (hashes places : List ℕ) (count i : ℕ) → IsIndexSoFar hashes places count i → i < length hashes
    → length hashes < count → 0 < copies 0 places
so_far_free hashes places count i s below larger =
    omega (arith, s.index.empty, s.size, length-take-le i hashes (omega arith))

-- no rows and no places
pub index_within_none : (hashes places : List ℕ) (capacity : ℕ) → hashes ≡ [] → places ≡ []
    → IsIndexWithin hashes places 0 capacity
index_within_none hashes places capacity none empty =
    subst (λ (l : List ℕ). IsIndexWithin l places 0 capacity) (sym none)
    (subst (λ (l : List ℕ). IsIndexWithin [] l 0 capacity) (sym empty) (record {
      rule = index_of_none 0;
      power = λ some. absurd (omega arith);
      twice = omega arith;
      within = omega arith;
    }))

take_none : (n : ℕ) → take {A = ℕ} n [] ≡ []
take_none zero = refl
take_none (suc n) = refl

-- places that were filled up with 0
pub all_zeros : (xs old : List ℕ) (n len : ℕ) → xs ≡ take n old ++ replicate (n - len) 0 → old ≡ [] → len ≡ 0
    → xs ≡ replicate n 0
all_zeros xs old n len e none zero_len =
    let rest : n - len ≡ n = omega arith in
    e ∙ ap (λ (l : List ℕ). take n l ++ replicate (n - len) 0) none
    ∙ ap (λ (l : List ℕ). l ++ replicate (n - len) 0) (take_none n) ∙ ap (λ (k : ℕ). replicate k 0) rest

-- the index of a table where a row is put in
pub push_within : (hashes old lent put more : List ℕ) (room capacity new_capacity count number h home : ℕ)
    → IsIndexWithin hashes old room capacity → 0 < room → lent ≡ old → count ≡ length old → home ≡ h % count
    → number ≡ length hashes + 1 → IsPut lent put home number → more ≡ hashes ++ h ∷ [] → new_capacity ≡ capacity
    → IsIndexWithin more put (room - 1) new_capacity
push_within hashes old lent put more room capacity new_capacity count number h home t some same size at numbered
    is_put e cap =
    let in_old : IsPut old put (h % length old) (length hashes + 1) =
    subst (λ (l : List ℕ). IsPut l put (h % length old) (length hashes + 1)) same
    (subst (λ (k : ℕ). IsPut lent put k (length hashes + 1)) (at ∙ ap (λ (n : ℕ). h % n) size)
    (subst (λ (m : ℕ). IsPut lent put home m) numbered is_put)) in
    let longer : length put ≡ length old = ap length in_old.put ∙ length-set old in_old.place (length hashes + 1) in
    let one : length (hashes ++ h ∷ []) ≡ length hashes + 1 = length-append hashes (h ∷ []) in
    subst (λ (l : List ℕ). IsIndexWithin l put (room - 1) new_capacity) (sym e) (record {
      rule = index_with hashes old put h t.rule in_old;
      power = λ full. subst IsPowerOfTwo (sym longer) (t.power (omega arith));
      twice = omega (arith, t.twice);
      within = omega (arith, t.within);
    })
