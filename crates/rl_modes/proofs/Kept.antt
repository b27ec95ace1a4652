-- What holdings keep when an item enters or leaves a place.
use Rattle.std.proofs.Common.{◌≡◌, ℕ, zero, suc, ◌+◌, ◌<◌, ◌≤◌, Bool, true, false, not, cond, ◌&&◌, ◌||◌, eqb, ltb, List, [], ◌∷◌, ◌++◌, length, get_or, take, drop, refl, sym, ap, ◌∙◌, ◌⊎◌, ⊎_elim, arith}
use Rattle.std.proofs.Math.Seq.{drop-cons}
use Rattle.std.specs.List.{insert, remove, filter, list_any, list_all}
use Rattle.std.specs.Prelude.{slice_index}
use Rattle.std.proofs.lemmas.Bool.{cases_Bool, cases_lt, and_parts, eqb-true}
use Rattle.std.proofs.lemmas.Bool.Decides.{nat_tests}
use Rattle.std.proofs.lemmas.List.{take-append-drop}
use Rattle.std.proofs.lemmas.List.Edits.{length-remove, get_or-remove_below, get_or-remove_above}
use Rattle.std.proofs.lemmas.List.Elements.{All-append, All-cons, All-take, All-drop}
use Rattle.std.proofs.lemmas.List.Quantifiers.{all_pairs_remove}
use Rattle.std.proofs.lemmas.List.Sums.{list_all-from_AllPass}
use Rattle.cf_ids.specs.declared.numbers.Item.{Item}
use Rattle.cf_ids.specs.declared.numbers.ItemKind.TheVariants.{Source}
use Rattle.rl_base.specs.declared.places.Place.{Place}
use Rattle.rl_base.specs.Modes.{rank}
use Rattle.rl_modes.specs.declared.holdings.Seat.{Seat}
use Rattle.rl_modes.specs.Loops.{Holding, is_of, holds_at, stands_before, with_one, without}
use Rattle.rl_modes.specs.Fields.{IsCut, IsKept, Precedes, sits_before, is_seat, opens, places_marked, places_held, places_seated}
use Rattle.rl_modes.proofs.Cuts.{cut_tail, filter_but, filter_kept, length-filter_with}
use Rattle.rl_modes.proofs.Orders.{is_below, only_at, found_at, is_found, order_with}
use Rattle.rl_modes.proofs.Marks.{Reads, alike_with, alike_without}
use Rattle.cf_ids.specs.declared.limits.TheConstants.{MODES}

-- ---- what is there, by holdings and by seats

pub any_marked : {A : Type 0} (mark : A → ℕ) (place : A → Place) (i r : ℕ) (is : A → Bool)
    → ((x : A) → is x ≡ (eqb (mark x) i && eqb (rank (place x)) r)) → (xs : List A)
    → list_any is xs ≡ list_any (λ q. eqb (rank q) r) (places_marked mark place i xs)
any_marked mark place i r is agree [] = refl
any_marked mark place i r is agree (x ∷ xs) =
    rw (agree x, any_marked mark place i r is agree xs)
    (⊎_elim (λ t. rw t refl) (λ f. rw f refl) (cases_Bool (eqb (mark x) i)))

pub and_turned : (a b : Bool) → (a && b) ≡ (b && a)
and_turned true true = refl
and_turned true false = refl
and_turned false true = refl
and_turned false false = refl

pub seat_tells : (held : List Holding) (seats : List Seat) → ((i : ℕ) → places_seated i seats ≡ places_held i held)
    → (i : ℕ) (p : Place) → list_any (is_seat i p) seats ≡ holds_at held i p
seat_tells held seats seated i p =
    any_marked (λ s. s.item) (λ s. s.place) i (rank p) (is_seat i p) (λ s. refl) seats
    ∙ (ap (list_any (λ q. eqb (rank q) (rank p))) (seated i)
    ∙ sym (any_marked (λ h. h.item.id) (λ h. h.place) i (rank p) (is_of i p)
    (λ h. and_turned (eqb (rank h.place) (rank p)) (eqb h.item.id i)) held))

below_at_first : (a b m n : ℕ) → m ≡ a → is_below a b m n ≡ ltb n b
below_at_first a b m n e = grind (arith, nat_tests)

below_at_second : (a b m n : ℕ) → n ≡ b → is_below a b m n ≡ ltb m a
below_at_second a b m n e = grind (arith, nat_tests)

module _ (held : List Holding) (seats : List Seat) (p : Place) (i k l : ℕ) (cut : IsCut (stands_before i p) held k) (seat : IsCut (sits_before i p) seats l) where
  reads_held : Reads (λ h. h.item.id) (λ h. h.place) (stands_before i p) i (rank p) held k
  reads_held = record { agree = λ h e. below_at_second (rank p) i (rank h.place) h.item.id e; cut = cut }

  reads_seats : Reads (λ s. s.item) (λ s. s.place) (sits_before i p) i (rank p) seats l
  reads_seats = record { agree = λ s e. below_at_first i (rank p) s.item (rank s.place) e; cut = seat }

abbrev HasRank : Holding → Type 0
HasRank h = rank h.place ≤ MODES

-- ---- an item enters a place

pub with_one-insert : (new : Holding) (held : List Holding) (k : ℕ)
    → IsCut (stands_before new.item.id new.place) held k → with_one new held ≡ insert held k new
with_one-insert new [] zero cut = refl
with_one-insert new [] (suc k) cut = absurd (omega (arith, cut.within))
with_one-insert new (h ∷ hs) zero cut = let t : stands_before new.item.id new.place h ≡ false = cut.rest 0 h
    (omega arith) (omega arith) in rw t refl
with_one-insert new (h ∷ hs) (suc k) cut =
    let t : stands_before new.item.id new.place h ≡ true = cut.front 0 h (omega arith) in
    rw t (ap (λ r. h ∷ r) (with_one-insert new hs k (cut_tail (stands_before new.item.id new.place) h hs k cut)))

count_with : (m : ℕ) (held : List Holding) (k : ℕ) (new : Holding)
    → length (filter (opens m) (insert held k new)) ≡ length (filter (opens m) held) + cond (opens m new) 1 0
count_with m held k new = length-filter_with (opens m) (take k held) (drop k held) new ∙ ap
    (λ hs. length (filter (opens m) hs) + cond (opens m new) 1 0) (take-append-drop k held)

pub kept_with : (held : List Holding) (seats : List Seat) (running more : List ℕ) (new : Holding) (seat : Seat)
    (k l : ℕ) → IsKept held seats running → IsCut (stands_before new.item.id new.place) held k
    → IsCut (sits_before new.item.id new.place) seats l → holds_at held new.item.id new.place ≡ false
    → seat.item ≡ new.item.id → seat.place ≡ new.place → rank new.place ≤ MODES
    → ((m : ℕ) → slice_index more m ≡ slice_index running m + cond (opens m new) 1 0)
    → IsKept (insert held k new) (insert seats l seat) more
kept_with held seats running more new seat k l kept cut sits absent si sp low counts = record {
  ordered = record {
    in_order = order_with (λ h. rank h.place) (λ h. h.item.id) (rank new.place) new.item.id held k
        kept.ordered.in_order cut new refl refl absent;
    below = All-append HasRank (take k held) (new ∷ drop k held) (All-take HasRank k held kept.ordered.below)
        (All-cons HasRank new (drop k held) low (All-drop HasRank k held kept.ordered.below));
  };
  seats_in_order = order_with (λ s. s.item) (λ s. rank s.place) new.item.id (rank new.place) seats l
      kept.seats_in_order sits seat si (ap rank sp) (seat_tells held seats kept.seated new.item.id new.place ∙ absent);
  seated = λ j. alike_with (λ s. s.item) (λ s. s.place) (sits_before new.item.id new.place) (λ h. h.item.id)
      (λ h. h.place) (stands_before new.item.id new.place) new.item.id (rank new.place) seats l held k
      (reads_seats held seats new.place new.item.id k l cut sits) (reads_held held seats new.place new.item.id k l cut
      sits) kept.seated seat new si refl sp j;
  counted = λ m. rw (counts m, kept.counted m) (sym (count_with m held k new));
}

-- ---- an item leaves a place

module _ (held : List Holding) (seats : List Seat) (running less : List ℕ) (p : Place) (i k l : ℕ) (kept : IsKept held seats running) (cut : IsCut (stands_before i p) held k) (sits : IsCut (sits_before i p) seats l) (there : holds_at held i p ≡ true) where
  pub held_at : k < length held
  held_at = found_at (λ h. rank h.place) (λ h. h.item.id) (rank p) i held k kept.ordered.in_order cut there

  pub is_held : (d : Holding) → is_of i p (get_or held k d) ≡ true
  is_held d = is_found (λ h. rank h.place) (λ h. h.item.id) (rank p) i held k kept.ordered.in_order cut d there

  seated_there : list_any (is_seat i p) seats ≡ true
  seated_there = seat_tells held seats kept.seated i p ∙ there

  pub seat_at : l < length seats
  seat_at = found_at (λ s. s.item) (λ s. rank s.place) i (rank p) seats l kept.seats_in_order sits seated_there

  is_seated : (d : Seat) → is_seat i p (get_or seats l d) ≡ true
  is_seated d = is_found (λ s. s.item) (λ s. rank s.place) i (rank p) seats l kept.seats_in_order sits d seated_there

  split : (d : Holding) → take k held ++ get_or held k d ∷ drop (suc k) held ≡ held
  split d = ap (λ r. take k held ++ r) (sym (drop-cons held k d held_at)) ∙ take-append-drop k held

  abbrev stays : Holding → Bool
  stays h = not (is_of i p h || false)

  others_stay : list_all stays (remove held k) ≡ true
  others_stay = list_all-from_AllPass stays (remove held k) (λ j d lt. other j d lt (cases_lt j k))
    where
      apart : (h : Holding) → is_of i p h ≡ false → stays h ≡ true
      apart h f = rw f refl

      other : (j : ℕ) (d : Holding) → j < length (remove held k) → ◌⊎◌ (j < k) (k ≤ j)
          → stays (get_or (remove held k) j d) ≡ true
      other j d lt side =
          let long : length (remove held k) + 1 ≡ length held = length-remove held k held_at in
          ⊎_elim
          (λ below. rw (get_or-remove_below held k d j below held_at) (apart (get_or held j d)
          (only_at (λ h. rank h.place) (λ h. h.item.id) (rank p) i held k kept.ordered.in_order cut j d
          (λ e. absurd (omega arith)) (omega arith))))
          (λ above. rw (get_or-remove_above held k d j above held_at) (apart (get_or held (j + 1) d)
          (only_at (λ h. rank h.place) (λ h. h.item.id) (rank p) i held k kept.ordered.in_order cut (j + 1) d
          (λ e. absurd (omega arith)) (omega arith))))
          side

  pub without-remove : without i (p ∷ []) held ≡ remove held k
  without-remove =
      let goes : stays (get_or held k a_holding) ≡ false = rw (is_held a_holding) refl in
      ap (filter stays) (sym (split a_holding)) ∙ (filter_but stays (take k held) (drop (suc k) held)
      (get_or held k a_holding) goes ∙ filter_kept stays (remove held k) others_stay)
    where
      a_holding : Holding
      a_holding = record { place = p; item = record { id = 0; kind = Source } }

  count_without : (m : ℕ) (d : Holding)
      → length (filter (opens m) (remove held k)) + cond (opens m (get_or held k d)) 1 0 ≡ length
      (filter (opens m) held)
  count_without m d = sym (length-filter_with (opens m) (take k held) (drop (suc k) held) (get_or held k d)) ∙ ap
      (λ hs. length (filter (opens m) hs)) (split d)

  opens_same : (m : ℕ) (d : Holding) (gone : Item) → gone ≡ (get_or held k d).item → opens m (get_or held k d) ≡ opens
      m (record { place = p; item = gone })
  opens_same m d gone e = let r : rank (get_or held k d).place ≡ rank p = eqb-true _ _
      (and_parts _ _ (is_held d)).0 in rw (e, r) refl

  -- an item that leaves is counted if it keeps a mode open
  pub counted_there : (m : ℕ) (d : Holding) (gone : Item) → gone ≡ (get_or held k d).item → cond
      (opens m (record { place = p; item = gone })) 1 0 ≤ slice_index running m
  counted_there m d gone e = rw (← opens_same m d gone e, kept.counted m) (omega (arith, count_without m d))

  pub kept_without : (d : Holding) (gone : Item) → gone ≡ (get_or held k d).item
      → ((m : ℕ) → slice_index less m + cond (opens m (record { place = p; item = gone })) 1 0 ≡ slice_index running
      m) → IsKept (remove held k) (remove seats l) less
  kept_without d gone e counts = record {
    ordered = record {
      in_order = all_pairs_remove (Precedes (λ h. rank h.place) (λ h. h.item.id)) held k held_at kept.ordered.in_order;
      below = All-append HasRank (take k held) (drop (suc k) held) (All-take HasRank k held kept.ordered.below)
          (All-drop HasRank (suc k) held kept.ordered.below);
    };
    seats_in_order = all_pairs_remove (Precedes (λ s. s.item) (λ s. rank s.place)) seats l seat_at kept.seats_in_order;
    seated = λ j. alike_without (λ s. s.item) (λ s. s.place) (sits_before i p) (λ h. h.item.id) (λ h. h.place)
        (stands_before i p) i (rank p) seats l held k (reads_seats held seats p i k l cut sits)
        (reads_held held seats p i k l cut sits) kept.seated a_seat d seat_at held_at
        (eqb-true _ _ (and_parts _ _ (is_seated a_seat)).0) (eqb-true _ _ (and_parts _ _ (is_held d)).1) j;
    counted = λ m. omega (arith, rw (← opens_same m d gone e) at (counts m), kept.counted m, count_without m d);
  }
    where
      a_seat : Seat
      a_seat = record { item = 0; place = p }
