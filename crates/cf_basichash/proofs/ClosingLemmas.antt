-- How the places close up where a row goes: what stands later moves up into the place that became empty where its way
-- from home leads over it, and the numbers of the later rows become less by 1.
use Rattle.std.proofs.Common.{◌≡◌, ◌≢◌, ℕ, zero, suc, ◌+◌, ◌-◌, ◌%◌, ◌<◌, ◌≤◌, ◌⊎◌, inl, inr, List, [], ◌∷◌, length, get_or, set, map, remove, refl, sym, ap, ◌∙◌, subst, arith, length-set}
use Rattle.std.proofs.lemmas.List.{length-map}
use Rattle.std.proofs.lemmas.Bool.{cases_lt}
use Rattle.std.proofs.lemmas.Grind.{same_number_lists}
use Rattle.std.proofs.lemmas.Bool.Decides.{nat_tests}
use Rattle.std.proofs.lemmas.List.Edits.{get_or-remove_below, get_or-remove_above, length-remove}
use Rattle.std.specs.Int.{IsPowerOfTwo}
use Rattle.cf_basichash.specs.Places.{steps, IsNext, hit, copies, home_at, IsReached, AreReached, IsIndex, IsIndexWithin, IsFirst, IsShifted, IsClosed, lower}
use Rattle.cf_basichash.proofs.StepsLemmas.{same_or_not, steps_same, steps_none, all_round, steps_next, along, nearer, Between, between}
use Rattle.cf_basichash.proofs.PlacesLemmas.{hit_same, hit_other, has_place, is_copied, full_within, Wrote, wrote, is_reached_by}

-- a home is a place
pub home_in : (hashes places : List ℕ) (p : ℕ) → 0 < length places → home_at hashes places p < length places
home_in hashes places p some = let n = length places in omega arith

-- where some place is empty and all that were passed are not, one does not come back to where one began
pub not_back : (places : List ℕ) (h p q : ℕ) → h < length places → p < length places → IsNext (length places) p q
    → ((x : ℕ) → x < length places → steps (length places) h x < steps (length places) h p → 0 < get_or places x 0)
    → 0 < get_or places p 0 → 0 < copies 0 places → q ≢ h
not_back places h p q h_in p_in next before here free back =
    let empty = has_place 0 places free in
    let full : 0 < get_or places empty.place 0 =
    all_round (length places) h p q (λ x. 0 < get_or places x 0) h_in p_in next before here back empty.place
    empty.within in
    omega (arith, empty.there)

-- midway: the place `hole` is to be filled, and the places after `start` up to `place` were looked at. Each other row
-- is reached, if what last stood in `hole` counts as there, and none of those looked at wants to go into `hole`
pub record IsClosing (hashes old places : List ℕ) (start hole place : ℕ) : Type 0 where
  pub size : length places ≡ length old
  pub start_in : start < length places
  pub hole_in : hole < length places
  pub place_in : place < length places
  pub begun : steps (length places) start hole < steps (length places) start place
  pub known : (p : ℕ) → get_or places p 0 ≤ length hashes
  pub free : 0 < copies 0 places
  pub passed : (x : ℕ) → x < length places → steps (length places) start x < steps (length places) start place
      → 0 < get_or places x 0
  pub reached : (q : ℕ) → q ≢ hole → 0 < get_or places q 0 → IsReached places (home_at hashes places q) q
  pub stay : (q : ℕ) → q < length places → steps (length places) start hole < steps (length places) start q
      → steps (length places) start q < steps (length places) start place
      → steps (length places) (home_at hashes places q) q ≤ steps (length places) (home_at hashes places q) hole
  pub rest : (m : ℕ) → copies m (set places hole 0) ≡ copies m (set old start 0)

pub begin : (hashes places : List ℕ) (start next : ℕ) → AreReached hashes places → start < length places
    → 0 < get_or places start 0 → 0 < copies 0 places → IsNext (length places) start next
    → IsClosing hashes places places start start next
begin hashes places start next ways start_in full free turn =
    let none : steps (length places) start start ≡ 0 = steps_none (length places) start (omega arith) in
    let before : (x : ℕ) → x < length places → steps (length places) start x < steps (length places) start start
    → 0 < get_or places x 0 = λ x x_in lt. absurd (omega arith) in
    let other : next ≢ start =
    not_back places start start next start_in start_in turn before full free in
    let one : steps (length places) start next ≡ steps (length places) start start + 1 =
    steps_next (length places) start start next start_in start_in turn other in
    record {
      size = refl;
      start_in = start_in;
      hole_in = start_in;
      place_in = turn.within;
      begun = omega arith;
      known = ways.known;
      free = free;
      passed = along (length places) start start next (λ x. 0 < get_or places x 0) start_in start_in turn before full;
      reached = λ q o q_full. ways.reached q q_full;
      stay = λ q q_in after before_next. absurd (omega arith);
      rest = λ m. refl;
    }

module _ (hashes old places : List ℕ) (start hole place next : ℕ) (s : IsClosing hashes old places start hole place)
    (full : 0 < get_or places place 0) (turn : IsNext (length places) place next) where
  other : next ≢ start
  other = not_back places start place next s.start_in s.place_in turn s.passed full s.free

  further : steps (length places) start next ≡ steps (length places) start place + 1
  further = steps_next (length places) start place next s.start_in s.place_in turn other

  -- what stands at a place stays there where its way does not lead over the hole
  stay_more : steps (length places) (home_at hashes places place) place
      ≤ steps (length places) (home_at hashes places place) hole → (q : ℕ) → q < length places
      → steps (length places) start hole < steps (length places) start q
      → steps (length places) start q < steps (length places) start next
      → steps (length places) (home_at hashes places q) q ≤ steps (length places) (home_at hashes places q) hole
  stay_more stays q q_in after before =
      elim (cases_lt (steps (length places) start q) (steps (length places) start place)) [
        | inl lt ↦ s.stay q q_in after lt
        | inr ge ↦ subst
            (λ (k : ℕ). steps (length places) (home_at hashes places k) k ≤ steps (length places)
            (home_at hashes places k) hole)
            (steps_same (length places) start place q s.start_in s.place_in q_in (omega (arith, further))) stays
      ]

  pub closing_nearer : length places - steps (length places) start next < length places - steps (length places)
      start place
  closing_nearer = nearer (length places) start place next s.start_in s.place_in turn other

  pub closing_stays : steps (length places) (home_at hashes places place) place
      ≤ steps (length places) (home_at hashes places place) hole → IsClosing hashes old places start hole next
  closing_stays stays = record {
    size = s.size;
    start_in = s.start_in;
    hole_in = s.hole_in;
    place_in = turn.within;
    begun = omega (arith, further, s.begun);
    known = s.known;
    free = s.free;
    passed = along (length places) start place next (λ x. 0 < get_or places x 0) s.start_in s.place_in turn s.passed
        full;
    reached = s.reached;
    stay = stay_more stays;
    rest = s.rest;
  }

  -- what stands at a place moves into the hole, and leaves the next one
  module _ (new : List ℕ) (e : new ≡ set places hole (get_or places place 0))
      (moves : steps (length places) (home_at hashes places place) hole
      < steps (length places) (home_at hashes places place) place) where
    moved : Wrote places new hole (get_or places place 0)
    moved = wrote places new hole (get_or places place 0) s.hole_in e

    hole_full : 0 < get_or places hole 0
    hole_full = s.passed hole s.hole_in s.begun

    keeps_full : (x : ℕ) → 0 < get_or places x 0 → 0 < get_or new x 0
    keeps_full x x_full = omega (arith, moved.at x, full)

    apart : place ≢ hole
    apart same = let e2 = ap (λ (k : ℕ). steps (length places) start k) same in omega (arith, s.begun, e2)

    home_same : (q p : ℕ) → get_or new q 0 ≡ get_or places p 0 → home_at hashes new q ≡ home_at hashes places p
    home_same q p same =
        ap (λ (number : ℕ). get_or hashes (number - 1) 0 % length new) same
        ∙ ap (λ (n : ℕ). get_or hashes (get_or places p 0 - 1) 0 % n) moved.size

    new_reached : (q : ℕ) → (q ≡ hole) ⊎ (q ≢ hole) → q ≢ place → 0 < get_or new q 0
        → IsReached new (home_at hashes new q) q
    new_reached q (inl here) o q_full =
        is_reached_by places new (home_at hashes places place) (home_at hashes new q) q moved.size
        (home_same q place (omega (arith, moved.at q))) keeps_full
        (subst (λ (k : ℕ). IsReached places (home_at hashes places place) k) (sym here) (record {
          full = λ x x_in lt. (s.reached place apart full).full x x_in (omega (arith, lt, moves));
        }))
    new_reached q (inr away) o q_full =
        is_reached_by places new (home_at hashes places q) (home_at hashes new q) q moved.size
        (home_same q q (omega (arith, moved.at q))) keeps_full (s.reached q away (omega (arith, moved.at q)))

    new_rest : (m : ℕ) → copies m (set new place 0) ≡ copies m (set old start 0)
    new_rest m =
        let a = (wrote places (set places hole 0) hole 0 s.hole_in refl).count m in
        let b = (wrote new (set new place 0) place 0 (omega (arith, moved.size, s.place_in)) refl).count m in
        let stands : get_or new place 0 ≡ get_or places place 0 = omega (arith, moved.at place, apart) in
        let c = ap (hit m) stands in
        omega (arith, a, b, c, moved.count m, s.rest m)

    pub closing_moves : IsClosing hashes old new start place next
    closing_moves =
        let size = sym moved.size in
        let family : ℕ → Type 0 = λ n. steps n start place < steps n start next in
        let passes : ℕ → Type 0 = λ n. (x : ℕ) → x < n → steps n start x < steps n start next → 0 < get_or new x 0 in
        let stays : ℕ → Type 0 = λ n. (q : ℕ) → q < n → steps n start place < steps n start q
        → steps n start q < steps n start next
        → steps n (home_at hashes new q) q ≤ steps n (home_at hashes new q) place in
        let none : (q : ℕ) → q < length places → steps (length places) start place < steps (length places) start q
        → steps (length places) start q < steps (length places) start next
        → steps (length places) (home_at hashes new q) q ≤ steps (length places) (home_at hashes new q) place =
        λ q q_in after before. absurd (omega (arith, further, after, before)) in
        let free : copies 0 new ≡ copies 0 places =
        omega (
          arith,
          moved.count 0,
          hit_other 0 (get_or places hole 0) (omega (arith, hole_full)),
          hit_other 0
              (get_or places place 0) (omega (arith, full)),
        ) in
        record {
          size = omega (arith, moved.size, s.size);
          start_in = omega (arith, moved.size, s.start_in);
          hole_in = omega (arith, moved.size, s.place_in);
          place_in = omega (arith, moved.size, turn);
          begun = subst family size (omega (arith, further));
          known = λ p. omega (arith, moved.at p, s.known p, s.known place);
          free = omega (arith, free, s.free);
          passed = subst passes size (λ x x_in lt. keeps_full x
              (along (length places) start place next (λ y. 0 < get_or places y 0) s.start_in s.place_in turn
              s.passed full x x_in lt));
          reached = λ q o q_full. new_reached q (same_or_not q hole) o q_full;
          stay = subst stays size none;
          rest = new_rest;
        }

-- one place more is looked at
pub closing_on : (hashes old places new : List ℕ) (start hole place next left : ℕ)
    → IsClosing hashes old places start hole place → 0 < get_or places place 0
    → IsShifted hashes places new hole place left → IsNext (length new) place next
    → IsClosing hashes old new start left next
closing_on hashes old places new start hole place next left s full (inl moves) turn =
    let same : length new ≡ length places = ap length moves.1 ∙ length-set places hole (get_or places place 0) in
    subst (λ (k : ℕ). IsClosing hashes old new start k next) (sym moves.2)
    (closing_moves hashes old places start hole place next s full
    (subst (λ (n : ℕ). IsNext n place next) same turn) new moves.1 moves.0)
closing_on hashes old places new start hole place next left s full (inr stays) turn =
    subst (λ (k : ℕ). IsClosing hashes old new start k next) (sym stays.2)
    (subst (λ (l : List ℕ). IsClosing hashes old l start hole next) (sym stays.1)
    (closing_stays hashes old places start hole place next s full
    (subst (λ (l : List ℕ). IsNext (length l) place next) stays.1 turn) stays.0))

pub shifted_size : (hashes places new : List ℕ) (hole place left : ℕ) → IsShifted hashes places new hole place left
    → length new ≡ length places
shifted_size hashes places new hole place left (inl moves) = ap length moves.1 ∙ length-set places hole
    (get_or places place 0)
shifted_size hashes places new hole place left (inr stays) = ap length stays.1

-- the places that are left become fewer
pub closing_fewer : (hashes old places new : List ℕ) (start hole place next left : ℕ)
    → IsClosing hashes old places start hole place → 0 < get_or places place 0
    → IsShifted hashes places new hole place left → IsNext (length new) place next
    → length new - steps (length new) start next < length places - steps (length places) start place
closing_fewer hashes old places new start hole place next left s full shifted turn =
    let same : length new ≡ length places = shifted_size hashes places new hole place left shifted in
    subst (λ (n : ℕ). n - steps n start next < length places - steps (length places) start place) (sym same)
    (closing_nearer hashes old places start hole place next s full (subst (λ (n : ℕ). IsNext n place next) same turn))

-- the place after the last that moved is empty then
module _ (hashes old places : List ℕ) (start hole place : ℕ) (s : IsClosing hashes old places start hole place)
    (empty : get_or places place 0 ≡ 0) (new : List ℕ) (e : new ≡ set places hole 0) where
  cleared : Wrote places new hole 0
  cleared = wrote places new hole 0 s.hole_in e

  -- no row's way leads over the hole
  avoids : (q : ℕ) → q ≢ hole → 0 < get_or places q 0
      → steps (length places) (home_at hashes places q) q ≤ steps (length places) (home_at hashes places q) hole
  avoids q away full =
      let q_in = full_within places q full in
      let h = home_at hashes places q in
      let h_in = home_in hashes places q (omega arith) in
      elim (cases_lt (steps (length places) h hole) (steps (length places) h q)) [
        | inr le ↦ le
        | inl lt ↦ elim (cases_lt (steps (length places) h place) (steps (length places) h q)) [
          | inl past ↦ absurd (omega (arith, (s.reached q away full).full place s.place_in past))
          | inr le ↦ (let b : Between (length places) start hole place q = between (length places) start h hole
              place q s.start_in h_in s.hole_in s.place_in q_in s.begun lt le
              (λ same. omega (arith, ap (λ (k : ℕ). get_or places k 0) same)) in
              s.stay q q_in b.after b.before)
        ]
      ]

  home_cleared : (q : ℕ) → get_or new q 0 ≡ get_or places q 0 → home_at hashes new q ≡ home_at hashes places q
  home_cleared q same =
      ap (λ (number : ℕ). get_or hashes (number - 1) 0 % length new) same
      ∙ ap (λ (n : ℕ). get_or hashes (get_or places q 0 - 1) 0 % n) cleared.size

  cleared_reached : (q : ℕ) → 0 < get_or new q 0 → IsReached new (home_at hashes new q) q
  cleared_reached q q_full =
      let away : q ≢ hole = λ same. omega (arith, cleared.at q) in
      let stands : get_or new q 0 ≡ get_or places q 0 = omega (arith, cleared.at q) in
      let full : 0 < get_or places q 0 = omega arith in
      let way = s.reached q away full in
      let family : ℕ → Type 0 = λ n. (x : ℕ) → x < n → steps n (home_at hashes places q) x < steps n
      (home_at hashes places q) q → 0 < get_or new x 0 in
      let over : (x : ℕ) → x < length places
      → steps (length places) (home_at hashes places q) x < steps (length places) (home_at hashes places q) q
      → 0 < get_or new x 0 =
      λ x x_in lt. elim (same_or_not x hole) [
        | inl here ↦ absurd (omega (
          arith,
          avoids q away full,
          ap
              (λ (k : ℕ). steps (length places) (home_at hashes places q) k) here,
        ))
        | inr there ↦ omega (arith, cleared.at x, way.full x x_in lt)
      ] in
      subst (λ (k : ℕ). IsReached new k q) (sym (home_cleared q stands))
      (record { full = subst family (sym cleared.size) over })

  pub closed : IsClosed hashes old new start
  closed = record {
    size = omega (arith, cleared.size, s.size);
    rest = λ m. ap (copies m) e ∙ s.rest m;
    ways = record {
      known = λ p. omega (arith, cleared.at p, s.known p);
      reached = cleared_reached;
    };
  }

-- the number of a row, before or after the one that goes
pub lower_is : (gone x : ℕ) → ((x ≤ gone) × (lower gone x ≡ x)) ⊎ ((gone < x) × (lower gone x ≡ x - 1))
lower_is gone x = grind (arith, nat_tests)

pub get_lower : (gone : ℕ) (xs : List ℕ) (p : ℕ) → get_or (map (lower gone) xs) p 0 ≡ lower gone (get_or xs p 0)
get_lower gone [] p = omega (arith, lower_is gone 0)
get_lower gone (x ∷ xs) zero = refl
get_lower gone (x ∷ xs) (suc p) = get_lower gone xs p

hit_by : (m k x y : ℕ) → (x ≡ m) ⊎ (x ≢ m) → (x ≡ m → y ≡ k) → (y ≡ k → x ≡ m) → hit k y ≡ hit m x
hit_by m k x y (inl e) to from = omega (arith, hit_same m x e, hit_same k y (to e))
hit_by m k x y (inr o) to from = omega (arith, hit_other m x o, hit_other k y (λ e. o (from e)))

pub copies_below : (gone m : ℕ) (xs : List ℕ) → m < gone → copies m (map (lower gone) xs) ≡ copies m xs
unfolding copies
copies_below gone m [] below = refl
copies_below gone m (x ∷ xs) below =
    let rest = copies_below gone m xs below in
    let first = hit_by m m x (lower gone x) (same_or_not x m) (λ e. omega (arith, lower_is gone x))
    (λ e. omega (arith, lower_is gone x)) in
    omega arith

pub copies_above : (gone m : ℕ) (xs : List ℕ) → gone ≤ m → copies gone xs ≡ 0
    → copies m (map (lower gone) xs) ≡ copies (m + 1) xs
unfolding copies
copies_above gone m [] above none = refl
copies_above gone m (x ∷ xs) above none =
    let rest = copies_above gone m xs above (omega arith) in
    let other : x ≢ gone = λ e. omega (arith, hit_same gone x e) in
    let first = hit_by (m + 1) m x (lower gone x) (same_or_not x (m + 1)) (λ e. omega (arith, lower_is gone x))
    (λ e. omega (arith, lower_is gone x, other)) in
    omega arith

-- the row goes, and the numbers of the later rows become less by 1
module _ (hashes old mid : List ℕ) (i p : ℕ) (index : IsIndex hashes old) (below : i < length hashes)
    (p_in : p < length old) (there : get_or old p 0 ≡ i + 1) (c : IsClosed hashes old mid p) where
  emptied : Wrote old (set old p 0) p 0
  emptied = wrote old (set old p 0) p 0 p_in refl

  gone : copies (i + 1) mid ≡ 0
  gone =
      omega (
        arith,
        c.rest (i + 1),
        emptied.count (i + 1),
        index.once i below,
        hit_same (i + 1) (get_or old p 0)
            there,
        hit_other (i + 1) 0 (omega arith),
      )

  kept : (r : ℕ) → r < length hashes → r ≢ i → copies (r + 1) mid ≡ 1
  kept r r_in other =
      omega (
        arith,
        c.rest (r + 1),
        emptied.count (r + 1),
        index.once r r_in,
        hit_other (r + 1) (get_or old p 0)
            (omega (arith, there)),
        hit_other (r + 1) 0 (omega arith),
      )

  free : copies 0 mid ≡ copies 0 old + 1
  free =
      omega (arith, c.rest 0, emptied.count 0, hit_other 0 (get_or old p 0) (omega (arith, there)), hit_same 0 0 refl)

  fewer : length (remove hashes i) + 1 ≡ length hashes
  fewer = length-remove hashes i below

  no_gone : (q : ℕ) → 0 < get_or mid q 0 → get_or mid q 0 ≢ i + 1
  no_gone q full e = omega (arith, gone, is_copied (i + 1) mid q (full_within mid q full) e)

  lower_once : (r : ℕ) → r < length (remove hashes i) → copies (r + 1) (map (lower (i + 1)) mid) ≡ 1
  lower_once r r_in =
      elim (cases_lt r i) [
        | inl lt ↦ copies_below (i + 1) (r + 1) mid (omega arith) ∙ kept r (omega (arith, fewer)) (omega arith)
        | inr ge ↦ copies_above (i + 1) (r + 1) mid (omega arith) gone ∙ kept (r + 1) (omega (arith, fewer))
            (omega arith)
      ]

  -- a later row's hash stands a place lower, as its number does
  same_hash : (x : ℕ) → 0 < x → x ≢ i + 1 → get_or (remove hashes i) (lower (i + 1) x - 1) 0 ≡ get_or hashes (x - 1) 0
  same_hash x full other =
      elim (cases_lt (x - 1) i) [
        | inl lt ↦ ap (λ (k : ℕ). get_or (remove hashes i) k 0) (omega (arith, lower_is (i + 1) x))
            ∙ get_or-remove_below hashes i 0 (x - 1) lt below
        | inr ge ↦ ap (λ (k : ℕ). get_or (remove hashes i) k 0) (omega (arith, lower_is (i + 1) x))
            ∙ get_or-remove_above hashes i 0 (x - 2) (omega arith) below
            ∙ ap (λ (k : ℕ). get_or hashes k 0) (omega arith)
      ]

  lower_home : (q : ℕ) → 0 < get_or mid q 0
      → home_at (remove hashes i) (map (lower (i + 1)) mid) q ≡ home_at hashes mid q
  lower_home q full =
      ap (λ (a : ℕ). get_or (remove hashes i) (a - 1) 0 % length (map (lower (i + 1)) mid)) (get_lower (i + 1) mid q)
      ∙ ap (λ (a : ℕ). a % length (map (lower (i + 1)) mid)) (same_hash (get_or mid q 0) full (no_gone q full))
      ∙ ap (λ (n : ℕ). get_or hashes (get_or mid q 0 - 1) 0 % n) (length-map mid (lower (i + 1)))

  still_full : (x : ℕ) → 0 < get_or mid x 0 → 0 < get_or (map (lower (i + 1)) mid) x 0
  still_full x full = omega (arith, get_lower (i + 1) mid x, lower_is (i + 1) (get_or mid x 0))

  lower_reached : (q : ℕ) → 0 < get_or (map (lower (i + 1)) mid) q 0
      → IsReached (map (lower (i + 1)) mid) (home_at (remove hashes i) (map (lower (i + 1)) mid) q) q
  lower_reached q q_full =
      let full : 0 < get_or mid q 0 = omega (arith, get_lower (i + 1) mid q, lower_is (i + 1) (get_or mid q 0)) in
      is_reached_by mid (map (lower (i + 1)) mid) (home_at hashes mid q)
      (home_at (remove hashes i) (map (lower (i + 1)) mid) q)
      q (length-map mid (lower (i + 1))) (lower_home q full) still_full (c.ways.reached q full)

  lower_known : (q : ℕ) → get_or (map (lower (i + 1)) mid) q 0 ≤ length (remove hashes i)
  lower_known q =
      elim (cases_lt 0 (get_or mid q 0)) [
        | inl full ↦ omega (
          arith,
          get_lower (i + 1) mid q,
          lower_is (i + 1) (get_or mid q 0),
          c.ways.known q,
          no_gone q full,
          fewer,
        )
        | inr none ↦ omega (arith, get_lower (i + 1) mid q, lower_is (i + 1) (get_or mid q 0), fewer)
      ]

  pub index_without : IsIndex (remove hashes i) (map (lower (i + 1)) mid)
  index_without = record {
    once = lower_once;
    empty = omega (
      arith,
      copies_below (i + 1) 0 mid (omega arith),
      free,
      fewer,
      length-map mid (lower (i + 1)),
      c.size,
      index.empty,
    );
    ways = record {
      known = lower_known;
      reached = lower_reached;
    };
  }

-- the numbers are lowered up to a place
pub record IsLowered (gone : ℕ) (old new : List ℕ) (i : ℕ) : Type 0 where
  pub size : length new ≡ length old
  pub done : (k : ℕ) → k < i → get_or new k 0 ≡ lower gone (get_or old k 0)
  pub left : (k : ℕ) → i ≤ k → get_or new k 0 ≡ get_or old k 0

pub lowered_none : (gone : ℕ) (old : List ℕ) → IsLowered gone old old 0
lowered_none gone old = record { size = refl; done = λ k below. absurd (omega arith); left = λ k above. refl }

pub lowered_more : (gone : ℕ) (old mid new : List ℕ) (i : ℕ) → i < length mid → IsLowered gone old mid i
    → new ≡ set mid i (lower gone (get_or mid i 0)) → IsLowered gone old new (i + 1)
lowered_more gone old mid new i below s e =
    let w = wrote mid new i (lower gone (get_or mid i 0)) below e in
    let here : lower gone (get_or mid i 0) ≡ lower gone (get_or old i 0) = ap (lower gone) (s.left i (omega arith)) in
    record {
      size = omega (arith, w.size, s.size);
      done = λ k lt. elim (same_or_not k i) [
        | inl same ↦ omega (arith, w.at k, here, ap (λ (j : ℕ). lower gone (get_or old j 0)) same)
        | inr other ↦ omega (arith, w.at k, s.done k (omega arith))
      ];
      left = λ k le. omega (arith, w.at k, s.left k (omega arith));
    }

pub lowered_all : (gone : ℕ) (old new : List ℕ) → IsLowered gone old new (length old) → new ≡ map (lower gone) old
lowered_all gone old new s =
    same_number_lists new (map (lower gone) old) (s.size ∙ sym (length-map old (lower gone)))
    (λ k below. s.done k (omega (arith, s.size)) ∙ sym (get_lower gone old k))

-- the index of a table where a row goes
pub remove_within : (hashes old first_lent hash_lent close_lent mid lower_lent low fewer : List ℕ)
    (room capacity new_capacity row home place : ℕ) → IsIndexWithin hashes old room capacity → row < length hashes
    → first_lent ≡ old → hash_lent ≡ hashes → close_lent ≡ old → IsFirst first_lent home (row + 1) place
    → IsClosed hash_lent close_lent mid place → lower_lent ≡ mid → low ≡ map (lower (row + 1)) lower_lent
    → fewer ≡ remove hashes row → new_capacity ≡ capacity → IsIndexWithin fewer low (room + 1) new_capacity
remove_within hashes old first_lent hash_lent close_lent mid lower_lent low fewer room capacity new_capacity row
    home place t
    below first_is hash_is close_is first is_closed lower_is_mid low_is e cap =
    let at : IsFirst old home (row + 1) place =
    subst (λ (l : List ℕ). IsFirst l home (row + 1) place) first_is first in
    let c : IsClosed hashes old mid place = subst (λ (l : List ℕ). IsClosed l old mid place) hash_is
    (subst (λ (l : List ℕ). IsClosed hash_lent l mid place) close_is is_closed) in
    let is_low : low ≡ map (lower (row + 1)) mid =
    low_is ∙ ap (λ (l : List ℕ). map (lower (row + 1)) l) lower_is_mid in
    let size : length low ≡ length old = ap length is_low ∙ length-map mid (lower (row + 1)) ∙ c.size in
    let one : length (remove hashes row) + 1 ≡ length hashes = length-remove hashes row below in
    subst (λ (l : List ℕ). IsIndexWithin l low (room + 1) new_capacity) (sym e) (record {
      rule = subst (λ (l : List ℕ). IsIndex (remove hashes row) l) (sym is_low)
          (index_without hashes old mid row place t.rule below at.within at.there c);
      power = λ full. subst IsPowerOfTwo (sym size) (t.power (omega arith));
      twice = omega (arith, t.twice);
      within = omega (arith, t.within);
    })
