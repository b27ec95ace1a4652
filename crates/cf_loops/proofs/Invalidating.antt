-- How many references leave places, and loops after an item has left every place.
use Rattle.std.proofs.Common.{◌≡◌, ℕ, ◌+◌, ◌<◌, ◌≤◌, Bool, true, false, not, cond, ◌&&◌, eqb, Option, List, [], ◌∷◌, length, map, get_or, min, replicate, Some, refl, sym, ap, ◌∙◌, subst, arith, inl, inr}
use Rattle.std.specs.Prelude.{slice_get}
use Rattle.std.specs.List.{filter, list_any, All, AllPairs, range_with_len}
use Rattle.std.proofs.lemmas.Bool.{cases_lt, eqb-true, eq-eqb, or_right, and_right}
use Rattle.std.proofs.lemmas.List.{length-map, get_or-map}
use Rattle.std.proofs.lemmas.List.Kept.{AllPairs-filter}
use Rattle.std.proofs.lemmas.List.Folds.{list_any_at, list_any_none}
use Rattle.std.proofs.lemmas.List.FromFn.{length-range_with_len, get_or-range_with_len}
use Rattle.std.proofs.lemmas.Map.Views.{any-filter_same}
use Rattle.cf_ids.specs.declared.answer.Answer.TheVariants as answers
use Rattle.cf_ids.specs.declared.numbers.Item.{Item}
use Rattle.cf_ids.specs.declared.numbers.ItemKind.{ItemKind}
use Rattle.cf_ids.specs.declared.numbers.ItemKind.TheVariants.{Source}
use Rattle.cf_ids.specs.declared.limits.TheConstants.{MODES}
use Rattle.rl_base.specs.declared.places.Place.{Place}
use Rattle.rl_base.specs.declared.places.Place.TheVariants.{Common, Mode}
use Rattle.rl_base.specs.Modes.{rank, places, all_modes}
use Rattle.rl_modes.specs.Loops.{Holding, Loop, is_of, holds_at, in_each, without}
use Rattle.cf_syntax.specs.declared.script.Script.{Script}
use Rattle.cf_graph.specs.Holders.{owed}
use Rattle.cf_graph.specs.Edges.{Reference, held_by, weigh, one, has}
use Rattle.cf_graph.specs.Flows.{grows, flowed}
use Rattle.cf_next.specs.Held.{below}
use Rattle.cf_model.specs.State.{State, modes_of, is_common}
use Rattle.cf_model.specs.Own.{present_of, moves_to}
use Rattle.cf_contents.specs.Items.{kind_of}
use Rattle.cf_contents.specs.Deeds.{in_item}
use Rattle.cf_model.specs.Things.{Thing, thing_at}
use Rattle.cf_model.specs.Deals.{Deal, answering, invalidate_deal, with_item, drop_deal, leaving, holder_at, held_at, common_modes, loop_places, places_dropped, every_place}
use Rattle.cf_model.proofs.OwnLaws.{present_there}
use Rattle.cf_loops.specs.Following.{AreLoops, IsLoop, IsPlaceOfLoop, AfterDeal, kind_in, loop_at}
use Rattle.cf_loops.specs.Changing.{AreLow, HaveLeft, dropped_in, others, places_at, shared_places}
use Rattle.cf_loops.proofs.Ranging.{any_agree, filter_same, range_rises}
use Rattle.cf_loops.proofs.Weights.{same_place, each_place, other_loop, present_weighs, present_all, place_weighs}
use Rattle.cf_loops.proofs.Telling.{held_is, kept}
use Rattle.cf_loops.proofs.Staying.{kinds_changed}
use Rattle.cf_loops.proofs.Dealing.{loop_loses, no_owed}
use Rattle.cf_loops.proofs.Looking.{loop_found, commons_found, shared_told, left_told, places_told}
use Rattle.cf_loops.proofs.Leaving.{by_place, no_place, no_more, objects_at}
use Rattle.cf_loops.proofs.Listing.{flat_below, weigh_none, weigh_one, map_below, length_below}

-- ---- an item that is dropped from a place

one_place : (t i : ℕ) (q : Place) (es : List Reference) → has (holder_at t q) i es ≡ true
    → map (λ r. r.object) (present_of (held_at t i (q ∷ [])) es) ≡ i ∷ []
one_place t i q es e = rw e refl

module _ (s : Script) (st : State) (loops : List Loop) (t i : ℕ) (l : Loop) (h : AreLoops s st.parts st.edges loops) (found : Some l ≡ slice_get loops t) where
  is_loop : IsLoop s st.parts st.edges t l
  is_loop = loop_found s st.parts st.edges loops t l h found

  all_of : (modes : List ℕ) → AllPairs (λ a b. a < b) modes
      → present_of (held_at t i (filter (λ q. has (holder_at t q) i st.edges) (places modes))) st.edges ≡ held_at t i (filter (λ q. has (holder_at t q) i st.edges) (places modes))
  all_of modes rises =
      present_all (held_at t i (filter (λ q. has (holder_at t q) i st.edges) (places modes))) st.edges
      (no_more t i (λ q. has (holder_at t q) i st.edges) modes st.edges rises (λ p q e. ap (λ (k : Place). has (holder_at t k) i st.edges) (same_place p q e)) (λ q e. e))

  common_left : map (λ r. r.object)
      (present_of (held_at t i (places_dropped s t i st Common)) st.edges) ≡ replicate (length (shared_places i l)) i
  common_left =
      let commons = commons_found s st.parts st.edges loops t l h found in
      let ps = places_dropped s t i st Common in
      ap (map (λ (r : Reference). r.object)) (all_of (common_modes s t st.parts) (AllPairs-filter (λ (a b : ℕ). a < b) (is_common t st.parts.commons) (modes_of s) (range_rises 0 (length s.modes))))
      ∙ objects_at t i ps
      ∙ ap (λ (qs : List Place). replicate (length qs) i) (sym (shared_told s st.parts st.edges t l is_loop h.few commons i ∙ left_told s st.parts st.edges t l is_loop h.few commons i))

  chosen : (b c : Bool) (x y : Deal) (n : ℕ) → b ≡ c → (b ≡ true → map (λ r. r.object) x.leaves ≡ replicate n i)
      → y.leaves ≡ []
      → map (λ r. r.object) (cond b x y).leaves ≡ replicate (cond c n 0) i
  chosen true c x y n e h none = h refl ∙ ap (λ (d : Bool). replicate (cond d n 0) i) e
  chosen false c x y n e h none = ap (map (λ (r : Reference). r.object)) none ∙ ap (λ (d : Bool). replicate (cond d n 0) i) e

  pub dropped_objects : (q : Place) → map (λ r. r.object) (drop_deal s st t q i).leaves ≡ replicate (dropped_in i q l) i
  dropped_objects Common =
      chosen (has (holder_at t Common) i st.edges) (holds_at l.held i Common) (leaving st.parts (present_of (held_at t i (places_dropped s t i st Common)) st.edges)) (answering st.parts answers.Absent) (length (shared_places i l))
      (held_is s st.parts st.edges t l is_loop Common i) (λ e. common_left) refl
  dropped_objects (Mode n) =
      chosen (has (holder_at t (Mode n)) i st.edges) (holds_at l.held i (Mode n)) (leaving st.parts (present_of (held_at t i (Mode n ∷ [])) st.edges)) (answering st.parts answers.Absent) 1
      (held_is s st.parts st.edges t l is_loop (Mode n) i) (λ e. one_place t i (Mode n) st.edges e) refl

-- ---- an item that leaves every place

-- what is held is held in its place
self_held : (hs : List Holding) → All (λ h. holds_at hs h.item.id h.place ≡ true) hs
self_held hs k d lt = list_any_at (is_of (get_or hs k d).item.id (get_or hs k d).place) hs k d lt (own (get_or hs k d))
  where
    own : (h : Holding) → is_of h.item.id h.place h ≡ true
    own h = rw (eq-eqb (rank h.place) (rank h.place) refl, eq-eqb h.item.id h.item.id refl) refl

low_place : (q : Place) → rank q ≤ MODES → list_any (λ p. eqb (rank q) (rank p)) (places all_modes) ≡ true
unfolding all_modes
low_place Common low = refl
low_place (Mode n) low =
    or_right (eqb (n + 1) 0) _ (list_any_at (λ p. eqb (n + 1) (rank p)) (map Mode (range_with_len 0 MODES)) n Common
    (omega (arith, low, length-map (range_with_len 0 MODES) Mode, length-range_with_len 0 MODES)) (at n low))
  where
    at : (n : ℕ) → n + 1 ≤ MODES → eqb (n + 1) (rank (get_or (map Mode (range_with_len 0 MODES)) n Common)) ≡ true
    at n low =
        let lt : n < MODES = omega (arith, low) in
        let long : n < length (range_with_len 0 MODES) = omega (arith, lt, length-range_with_len 0 MODES) in
        let is : rank (get_or (map Mode (range_with_len 0 MODES)) n Common) ≡ n + 1 = ap rank (get_or-map Mode (range_with_len 0 MODES) n 0 Common long ∙ ap Mode (get_or-range_with_len 0 MODES n 0 lt ∙ omega arith)) in
        eq-eqb _ _ (sym is)

-- without what is of an item, and without it in each of its places
pub others_are : (i : ℕ) (held : List Holding) → AreLow held
    → others i held ≡ without i (filter (holds_at held i) (places all_modes)) held
others_are i held low =
    filter_same (λ h. not (eqb h.item.id i)) (λ h. not (list_any (λ p. is_of i p h) (filter (holds_at held i) (places all_modes)))) held
    (λ k d lt. ap not (each (get_or held k d) (low k d lt) (self_held held k d lt)))
  where
    turned : (h : Holding) (ps : List Place) → eqb h.item.id i ≡ true
        → list_any (λ p. is_of i p h) ps ≡ list_any (λ p. eqb (rank h.place) (rank p)) ps
    turned h ps e = any_agree (λ p. is_of i p h) (λ p. eqb (rank h.place) (rank p)) ps (λ k d lt. and_right_true (eqb (rank h.place) (rank (get_or ps k d))) (eqb h.item.id i) e)
      where
        and_right_true : (a b : Bool) → b ≡ true → (a && b) ≡ a
        and_right_true true b e = e
        and_right_true false b e = refl

    none_of : (h : Holding) (ps : List Place) → eqb h.item.id i ≡ false → list_any (λ p. is_of i p h) ps ≡ false
    none_of h ps e = list_any_none (λ p. is_of i p h) ps (λ k d lt. and_right (eqb (rank h.place) (rank (get_or ps k d))) (eqb h.item.id i) e)

    each : (h : Holding) → rank h.place ≤ MODES → holds_at held h.item.id h.place ≡ true
        → eqb h.item.id i ≡ list_any (λ p. is_of i p h) (filter (holds_at held i) (places all_modes))
    each h small own = by (eqb h.item.id i) refl
      where
        by : (b : Bool) → eqb h.item.id i ≡ b
            → b ≡ list_any (λ p. is_of i p h) (filter (holds_at held i) (places all_modes))
        by true e =
            let ps = filter (holds_at held i) (places all_modes) in
            let here : holds_at held i h.place ≡ true = ap (λ (n : ℕ). holds_at held n h.place) (sym (eqb-true h.item.id i e)) ∙ own in
            let found : list_any (λ p. eqb (rank h.place) (rank p)) ps ≡ (holds_at held i h.place && list_any (λ p. eqb (rank h.place) (rank p)) (places all_modes)) =
            any-filter_same (λ p. eqb (rank h.place) (rank p)) (holds_at held i) (holds_at held i h.place)
            (λ p t. ap (holds_at held i) (same_place p h.place (sym (eqb-true (rank h.place) (rank p) t)))) (places all_modes) in
            sym (turned h ps e ∙ found ∙ ap (λ (b : Bool). b && list_any (λ p. eqb (rank h.place) (rank p)) (places all_modes)) here ∙ low_place h.place small)
        by false e = sym (none_of h (filter (holds_at held i) (places all_modes)) e)

module _ (s : Script) (st : State) (loops : List Loop) (i : ℕ) (h : AreLoops s st.parts st.edges loops) where
  abbrev refs_of : ℕ → List Reference
  refs_of t = held_at t i (loop_places s t i st.edges)

  all_are : every_place s i st.edges ≡ below refs_of s.thread_count
  all_are = flat_below refs_of s.thread_count

  other_thread : (t u j : ℕ) (q : Place) → (u ≡ t → ⊥) → weigh (one (held_by (holder_at t q) j)) (refs_of u) ≡ 0
  other_thread t u j q apart =
      let item : Item = record { id = i; kind = Source } in
      ap (weigh (one (held_by (holder_at t q) j))) (sym (each_place u item (loop_places s u i st.edges))) ∙ other_loop t u j q (in_each item (loop_places s u i st.edges)) (λ e. apart (sym e))

  of_thread : (t j : ℕ) (q : Place) → t < s.thread_count
      → weigh (one (held_by (holder_at t q) j)) (every_place s i st.edges) ≡ weigh (one (held_by (holder_at t q) j)) (refs_of t)
  of_thread t j q lt =
      ap (weigh (one (held_by (holder_at t q) j))) all_are
      ∙ weigh_one (one (held_by (holder_at t q) j)) refs_of s.thread_count t lt (λ u apart. other_thread t u j q apart)

  of_no_thread : (t j : ℕ) (q : Place) → s.thread_count ≤ t
      → weigh (one (held_by (holder_at t q) j)) (every_place s i st.edges) ≡ 0
  of_no_thread t j q le =
      ap (weigh (one (held_by (holder_at t q) j))) all_are
      ∙ weigh_none (one (held_by (holder_at t q) j)) refs_of s.thread_count (λ u lt. other_thread t u j q (λ e. absurd (omega (arith, e, lt, le))))

  -- all of them are there
  all_there : (r : Reference) → weigh (one r) (every_place s i st.edges) ≤ weigh (one r) st.edges
  all_there =
      by_place (λ r. weigh (one r) (every_place s i st.edges) ≤ weigh (one r) st.edges)
      (λ t j q. elim (cases_lt t s.thread_count) [
        | inl lt ↦ omega (arith, of_thread t j q lt, own t (held_by (holder_at t q) j))
        | inr le ↦ omega (arith, of_no_thread t j q le)
      ])
      (λ r apart.
      omega (arith, ap (weigh (one r)) all_are, weigh_none (one r) refs_of s.thread_count (λ u lt. none u r apart)))
    where
      own : (t : ℕ) (r : Reference) → weigh (one r) (refs_of t) ≤ weigh (one r) st.edges
      own t =
          no_more t i (λ q. has (holder_at t q) i st.edges) (modes_of s) st.edges (range_rises 0 (length s.modes))
          (λ p q e. ap (λ (k : Place). has (holder_at t k) i st.edges) (same_place p q e)) (λ q e. e)

      none : (u : ℕ) (r : Reference) → (IsPlaceOfLoop r.holder → ⊥) → weigh (one r) (refs_of u) ≡ 0
      none u r apart =
          let item : Item = record { id = i; kind = Source } in
          ap (weigh (one r)) (sym (each_place u item (loop_places s u i st.edges))) ∙ no_place r u (in_each item (loop_places s u i st.edges)) apart

  pub everywhere_objects : map (λ r. r.object) (present_of (every_place s i st.edges) st.edges)
      ≡ replicate (length (below (λ t. places_at i (loop_at t loops)) s.thread_count)) i
  everywhere_objects =
      ap (map (λ (r : Reference). r.object)) (present_all (every_place s i st.edges) st.edges all_there ∙ all_are)
      ∙ map_below (λ (r : Reference). r.object) refs_of i s.thread_count (λ t. objects_at t i (loop_places s t i st.edges) ∙ ap (λ (n : ℕ). replicate n i) (sym (length-map (loop_places s t i st.edges) (λ p. held_by (holder_at t p) i))))
      ∙ ap (λ (n : ℕ). replicate n i) (length_below refs_of (λ t. places_at i (loop_at t loops)) s.thread_count
      (λ t lt. length-map (loop_places s t i st.edges) (λ p. held_by (holder_at t p) i) ∙ ap length (places_told s st.parts st.edges t (loop_at t loops) (h.loops_are t) h.few i)))

  -- the references after it has left
  abbrev edges_left : ℕ → List Reference
  edges_left by = flowed (grows [] (moves_to (owed by) (present_of (every_place s i st.edges) st.edges))) st.edges

  -- loops after it has left
  pub all_left : (by : ℕ) (after : List Loop) → HaveLeft i (length loops) loops after
      → AfterDeal s st by (leaving st.parts (present_of (every_place s i st.edges) st.edges)) after
  all_left by after left = record {
    threads = left.count ∙ h.threads;
    few = h.few;
    loops_are = λ t. elim (cases_lt t (length loops)) [ inl lt ↦ here t lt | inr le ↦ past t le ];
    commons = λ t lt. let within : t < length loops = omega (arith, lt, h.threads) in (left.left t within).common_modes ∙ h.commons t lt;
  }
    where
      went : (t j : ℕ) (q : Place)
          → weigh (one (held_by (holder_at t q) j)) (edges_left by)
          + min (weigh (one (held_by (holder_at t q) j)) (every_place s i st.edges)) (weigh (one (held_by (holder_at t q) j)) st.edges) ≡ weigh (one (held_by (holder_at t q) j)) st.edges
      went t j q =
          let r = held_by (holder_at t q) j in
          omega (
            arith,
            place_weighs by [] (present_of (every_place s i st.edges) st.edges) st.edges r (λ n. no_owed t n q) (present_there (every_place s i st.edges) st.edges),
            present_weighs (every_place s i st.edges) st.edges r,
          )

      here : (t : ℕ) → t < length loops
          → IsLoop s st.parts (edges_left by) t (loop_at t after)
      here t lt =
          let l = loop_at t loops in
          let is = h.loops_are t in
          let within : t < s.thread_count = omega (arith, lt, h.threads) in
          let ps = loop_places s t i st.edges in
          let held : (loop_at t after).held ≡ without i ps l.held =
          (left.left t lt).held is.ordered.below ∙ others_are i l.held is.ordered.below ∙ ap (λ (qs : List Place). without i qs l.held) (sym (places_told s st.parts st.edges t l is h.few i)) in
          loop_loses s st.parts st.parts st.edges (edges_left by) t i l (loop_at t after) ps (λ j k e. e) is held
          (λ q j. subst (λ (n : ℕ). weigh (one (held_by (holder_at t q) j)) (edges_left by) + min n (weigh (one (held_by (holder_at t q) j)) st.edges) ≡ weigh (one (held_by (holder_at t q) j)) st.edges) (of_thread t j q within) (went t j q))

      past : (t : ℕ) → length loops ≤ t
          → IsLoop s st.parts (edges_left by) t (loop_at t after)
      past t le =
          let is = h.loops_are t in
          let beyond : s.thread_count ≤ t = omega (arith, le, h.threads) in
          subst (IsLoop s st.parts (edges_left by) t) (sym (left.rest t le))
          (record {
            held = λ q j. omega (arith, went t j q, of_no_thread t j q beyond, is.held q j);
            items = is.items;
            ordered = is.ordered;
          })

-- the same where the item is invalid from then on
pub all_invalidated : (s : Script) (st : State) (by i : ℕ) (x : Thing) (after : List Loop)
    → AfterDeal s st by (leaving st.parts (present_of (every_place s i st.edges) st.edges)) after
    → thing_at st.parts i ≡ Some x → x.valid ≡ true → AfterDeal s st by (invalidate_deal s st i x) after
all_invalidated s st by i x after h is valid =
    rw valid (kept s st.parts (with_item st.parts i false x.item) (edges_left by) (edges_left by) after h
    (record { commons = refl; kinds = kinds_changed i (in_item false x.item) st.parts.objects (λ k e. same_kind (thing_at st.parts i) x k is e) }) (λ r place. refl))
  where
    edges_left : ℕ → List Reference
    edges_left t = flowed (grows [] (moves_to (owed t) (present_of (every_place s i st.edges) st.edges))) st.edges

    some_kind : (a b : ItemKind) → ◌≡◌ {A = Option ItemKind} (Some a) (Some b) → a ≡ b
    some_kind a b e = cc

    same_kind : (o : Option Thing) (x : Thing) (k : ItemKind) → o ≡ Some x → kind_in o ≡ Some k → kind_of x.item ≡ k
    same_kind o x k is e = some_kind (kind_of x.item) k (ap kind_in (sym is) ∙ e)
