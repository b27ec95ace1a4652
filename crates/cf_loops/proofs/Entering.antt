-- Loops after an item is added to a place or dropped from one, and after a mode becomes a common one.
use Rattle.std.proofs.Common.{◌≡◌, ℕ, ◌+◌, ◌<◌, ◌≤◌, Bool, true, false, not, cond, ◌&&◌, eqb, List, [], ◌∷◌, length, map, set, Some, refl, sym, ap, ◌∙◌, subst, arith}
use Rattle.std.specs.List.{filter, All, AllPairs}
use Rattle.std.proofs.lemmas.Bool.{ne_eqb, eq-eqb}
use Rattle.std.proofs.lemmas.List.Elements.{All-nil, All-cons, All-weaker, All-filter, All-map, filter_agree}
use Rattle.std.proofs.lemmas.List.Kept.{AllPairs-filter}
use Rattle.cf_ids.specs.declared.numbers.Item.{Item}
use Rattle.cf_ids.specs.declared.limits.TheConstants.{MODES}
use Rattle.rl_base.specs.declared.places.Place.{Place}
use Rattle.rl_base.specs.declared.places.Place.TheVariants.{Common, Mode}
use Rattle.rl_base.specs.Modes.{rank, places, items_gained}
use Rattle.rl_modes.specs.Loops.{Holding, Loop, holds_at, items_at, is_among, with_these, in_each, each_in, common_gained, without, with_mode}
use Rattle.rl_modes.specs.Fields.{IsOrdered}
use Rattle.rl_modes.proofs.News.{enters_each, each_enters}
use Rattle.rl_modes.proofs.Sound.{places_up}
use Rattle.cf_syntax.specs.declared.script.Script.{Script}
use Rattle.cf_graph.specs.Holders.{Holder, owed, in_mode}
use Rattle.cf_graph.specs.Edges.{Reference, held_by, counted, has}
use Rattle.cf_graph.specs.Flows.{grows, flowed}
use Rattle.cf_model.specs.State.{Parts, State, modes_of, is_common}
use Rattle.cf_model.specs.Things.{thing_at}
use Rattle.cf_model.specs.Own.{moves_to}
use Rattle.cf_model.specs.Deals.{entering, holder_at, held_at, common_modes, places_added, places_dropped, drop_deal, common_items, common_deal}
use Rattle.cf_loops.specs.Following.{AreLoops, IsLoop, IsItem, AfterDeal, loop_at, kind_in}
use Rattle.cf_loops.specs.Changing.{places_gained, places_left, held_after_drop}
use Rattle.cf_loops.specs.Edging.{references_of}
use Rattle.cf_loops.specs.Rooms.{HasMoreRoom}
use Rattle.cf_loops.proofs.Ranging.{filter_map, range_rises, range_within, range_more}
use Rattle.cf_loops.proofs.Weights.{each_place, each_item}
use Rattle.cf_loops.proofs.Ordering.{ordered_with_one, ordered_with_new}
use Rattle.cf_loops.proofs.Telling.{held_is}
use Rattle.cf_loops.proofs.Dealing.{one_changed, loops_get, loops_lose}
use Rattle.cf_loops.proofs.Looking.{items_told, items_rise, ids_at, left_told, gained_told}

held_objects : (k : Holder) (xs : List ℕ) → map (λ r. r.object) (map (held_by k) xs) ≡ xs
held_objects k [] = refl
held_objects k (x ∷ xs) = ap (λ (ys : List ℕ). x ∷ ys) (held_objects k xs)

module _ (s : Script) (st : State) (loops : List Loop) (t : ℕ) (m : Loop) (h : AreLoops s st.parts st.edges loops) (within : t < length loops) where
  abbrev l : Loop
  l = loop_at t loops

  is_loop : IsLoop s st.parts st.edges t l
  is_loop = h.loops_are t

  commons : l.common_modes ≡ common_modes s t st.parts
  commons = h.commons t (subst (λ (n : ℕ). t < n) h.threads within)

  -- nothing is changed
  pub unchanged : m.held ≡ l.held → m.common_modes ≡ l.common_modes → AreLoops s st.parts st.edges (set loops t m)
  unchanged is same =
      one_changed s st.parts st.parts st.edges st.edges loops t m h within (λ i k e. e) (λ u apart k i. refl)
      (record {
        held = λ k i. is_loop.held k i ∙ ap (λ (hs : List Holding). counted (holds_at hs i k)) (sym is);
        items = subst (All (IsItem s st.parts)) (sym is) is_loop.items;
        ordered = subst IsOrdered (sym is) is_loop.ordered;
      })
      (λ u apart. refl) (same ∙ commons)

  -- ---- an item is dropped

  places_are : (i : ℕ) (q : Place) → places_left i q l ≡ places_dropped s t i st q
  places_are i Common = left_told s st.parts st.edges t l is_loop h.few commons i
  places_are i (Mode n) = refl

  pub drop_follows : (by i : ℕ) (q : Place) → m.held ≡ held_after_drop i q l → m.common_modes ≡ l.common_modes
      → AfterDeal s st by (drop_deal s st t q i) (set loops t m)
  drop_follows by i q is same = cases (holds_at l.held i q) (held_is s st.parts st.edges t l is_loop q i) is
    where
      cases : (b : Bool) → has (holder_at t q) i st.edges ≡ b
          → m.held ≡ cond b (without i (places_left i q l) l.held) l.held
          → AfterDeal s st by (drop_deal s st t q i) (set loops t m)
      cases true e is =
          rw e (loops_lose s st.parts st.edges loops by t i m (places_dropped s t i st q) h within
          (is ∙ ap (λ (ps : List Place). without i ps l.held) (places_are i q)) same)
      cases false e is = rw e (unchanged is same)

  -- ---- an item is added

  abbrev IsLow : Place → Type 0
  IsLow q = rank q ≤ length s.modes

  commons_low : All (λ n. n + 1 ≤ length s.modes) l.common_modes
  commons_low =
      subst (All (λ n. n + 1 ≤ length s.modes)) (sym commons)
      (All-filter (is_common t st.parts.commons) (λ (n : ℕ). n + 1 ≤ length s.modes) (modes_of s)
      (All-weaker (λ (n : ℕ). (0 ≤ n) × (n < 0 + length s.modes)) (λ (n : ℕ). n + 1 ≤ length s.modes) (λ n w. omega (arith, w.1)) (modes_of s) (range_within 0 (length s.modes))))

  commons_rise : AllPairs (λ a b. a < b) l.common_modes
  commons_rise = subst (AllPairs (λ a b. a < b)) (sym commons) (AllPairs-filter (λ (a b : ℕ). a < b) (is_common t st.parts.commons) (modes_of s) (range_rises 0 (length s.modes)))

  places_low : All IsLow (places l.common_modes)
  places_low = All-cons IsLow Common (map Mode l.common_modes) (omega arith) (All-map IsLow Mode l.common_modes commons_low)

  low_gained : (i : ℕ) (q : Place) → IsLow q → All IsLow (places_gained i q l)
  low_gained i Common low = All-filter (λ q. not (holds_at l.held i q)) IsLow (places l.common_modes) places_low
  low_gained i (Mode n) low = All-cons IsLow (Mode n) [] low (All-nil IsLow)

  few_places : (q : Place) → IsLow q → rank q ≤ MODES
  few_places q low = omega (arith, low, h.few)

  added_order : (item : Item) (q : Place) → IsLow q → holds_at l.held item.id q ≡ false
      → IsOrdered (with_these (in_each item (places_gained item.id q l)) l.held)
  added_order item Common low absent =
      subst IsOrdered (enters_each item (places l.common_modes) l.held (places_up l.common_modes commons_rise))
      (ordered_with_new (in_each item (places l.common_modes)) l.held is_loop.ordered
      (All-map (λ (x : Holding). rank x.place ≤ MODES) (λ q. record { place = q; item = item }) (places l.common_modes)
      (All-weaker IsLow (λ q. rank q ≤ MODES) few_places (places l.common_modes) places_low)))
  added_order item (Mode n) low absent = ordered_with_one (record { place = Mode n; item = item }) l.held is_loop.ordered absent (few_places (Mode n) low)

  added_are : (i : ℕ) (q : Place) → places_gained i q l ≡ places_added s t i st q
  added_are i Common = gained_told s st.parts st.edges t l is_loop h.few commons i
  added_are i (Mode n) = refl

  pub add_follows : (by : ℕ) (item : Item) (q : Place) → IsLow q
      → kind_in (thing_at st.parts item.id) ≡ Some item.kind → holds_at l.held item.id q ≡ false
      → m.held ≡ with_these (in_each item (places_gained item.id q l)) l.held → m.common_modes ≡ l.common_modes
      → AfterDeal s st by (entering st.parts (held_at t item.id (places_added s t item.id st q))) (set loops t m)
  add_follows by item q low kind absent is same =
      let ps = places_gained item.id q l in
      let refs : references_of t (in_each item ps) ≡ held_at t item.id (places_added s t item.id st q) = each_place t item ps ∙ ap (held_at t item.id) (added_are item.id q) in
      subst (λ (rs : List Reference). AreLoops s st.parts (flowed (grows rs (moves_to (owed by) [])) st.edges) (set loops t m)) refs
      (loops_get s st.parts st.parts st.edges loops by t m (in_each item ps) h within (λ i k e. e) is
      (subst IsOrdered (sym is) (added_order item q low absent))
      (All-map (IsItem s st.parts) (λ p. record { place = p; item = item }) ps (All-weaker IsLow (λ p. IsItem s st.parts (record { place = p; item = item })) (λ p up. record { place = up; kind = kind }) ps (low_gained item.id q low)))
      (λ u apart. refl) (same ∙ commons))

  -- ---- a mode becomes a common one

  abbrev with_common : ℕ → Parts
  with_common n = record st.parts { commons = record { thread = t; mode = n } ∷ st.parts.commons }

  gained_are : (n : ℕ)
      → map (λ i. i.id) (common_gained n l.held) ≡ items_gained (λ i. has (in_mode t n) i st.edges) (common_items st t)
  gained_are n =
      sym (filter_map (λ i. not (holds_at l.held i (Mode n))) (λ (i : Item). i.id) (items_at Common l.held))
      ∙ filter_agree (λ i. not (holds_at l.held i (Mode n))) (λ i. not (has (in_mode t n) i st.edges)) (λ i. ap not (sym (held_is s st.parts st.edges t l is_loop (Mode n) i))) (ids_at Common l.held)
      ∙ ap (filter (λ i. not (has (in_mode t n) i st.edges))) (items_told s st.parts st.edges t l is_loop Common)

  -- the objects to which references enter
  pub none_gained : (n : ℕ) → is_common t st.parts.commons n ≡ true
      → map (λ r. r.object) (common_deal st t n).enters ≡ []
  none_gained n e = rw e refl

  pub all_gained : (n : ℕ) → is_common t st.parts.commons n ≡ false
      → map (λ r. r.object) (common_deal st t n).enters ≡ map (λ i. i.id) (common_gained n l.held)
  all_gained n e = rw e (held_objects (in_mode t n) (items_gained (λ i. has (in_mode t n) i st.edges) (common_items st t)) ∙ sym (gained_are n))

  gained_order : (n : ℕ) → IsLow (Mode n) → IsOrdered (with_these (each_in (Mode n) (common_gained n l.held)) l.held)
  gained_order n low =
      subst IsOrdered (each_enters (Mode n) (items_at Common l.held) l.held (items_rise Common l.held is_loop.ordered.in_order))
      (ordered_with_new (each_in (Mode n) (items_at Common l.held)) l.held is_loop.ordered
      (All-map (λ (x : Holding). rank x.place ≤ MODES) (λ (i : Item). record { place = Mode n; item = i }) (items_at Common l.held) (λ k d lt. few_places (Mode n) low)))

  gained_items : (n : ℕ) → IsLow (Mode n) → All (IsItem s (with_common n)) (each_in (Mode n) (common_gained n l.held))
  gained_items n low =
      let P : Item → Type 0 = λ i. kind_in (thing_at st.parts i.id) ≡ Some i.kind in
      let here : All P (items_at Common l.held) =
      All-map P (λ (x : Holding). x.item) (filter (λ x. eqb (rank x.place) (rank Common)) l.held)
      (All-filter (λ x. eqb (rank x.place) (rank Common)) (λ (x : Holding). P x.item) l.held (All-weaker (IsItem s st.parts) (λ (x : Holding). P x.item) (λ x is. is.kind) l.held is_loop.items)) in
      All-map (IsItem s (with_common n)) (λ (i : Item). record { place = Mode n; item = i }) (common_gained n l.held)
      (All-weaker P (λ i. IsItem s (with_common n) (record { place = Mode n; item = i })) (λ i k. record { place = low; kind = k }) (common_gained n l.held)
      (All-filter (λ i. not (holds_at l.held i.id (Mode n))) P (items_at Common l.held) here))

  others_common : (n u : ℕ) → (u ≡ t → ⊥) → common_modes s u (with_common n) ≡ common_modes s u st.parts
  others_common n u apart = filter_agree (is_common u (with_common n).commons) (is_common u st.parts.commons) (λ k. here k (ne_eqb t u (λ e. apart (sym e)))) (modes_of s)
    where
      here : (k : ℕ) → eqb t u ≡ false → is_common u (with_common n).commons k ≡ is_common u st.parts.commons k
      here k e = rw e refl

  own_common : (n : ℕ) → n < length s.modes → is_common t st.parts.commons n ≡ false
      → with_mode n l.common_modes ≡ common_modes s t (with_common n)
  own_common n lt off =
      ap (with_mode n) commons
      ∙ range_more (is_common t st.parts.commons) (is_common t (with_common n).commons) n (length s.modes) 0 (omega arith) (omega (arith, lt)) off
      (on (eq-eqb t t refl) (eq-eqb n n refl)) (λ k apart. rest k (ne_eqb n k (λ e. apart (sym e))))
    where
      on : eqb t t ≡ true → eqb n n ≡ true → is_common t (with_common n).commons n ≡ true
      on a b = rw (a, b) refl

      rest : (k : ℕ) → eqb n k ≡ false → is_common t (with_common n).commons k ≡ is_common t st.parts.commons k
      rest k e = and_off (eqb t t) (eqb n k) e
        where
          and_off : (a b : Bool) → b ≡ false
              → cond (a && b) true (is_common t st.parts.commons k) ≡ is_common t st.parts.commons k
          and_off true true f = absurd cc
          and_off true false f = refl
          and_off false b f = refl

  pub common_follows : (by n : ℕ) → n < length s.modes → is_among n l.common_modes ≡ is_common t st.parts.commons n
      → m.held ≡ cond (is_among n l.common_modes) l.held (with_these (each_in (Mode n) (common_gained n l.held)) l.held)
      → m.common_modes ≡ cond (is_among n l.common_modes) l.common_modes (with_mode n l.common_modes)
      → AfterDeal s st by (common_deal st t n) (set loops t m)
  common_follows by n lt told is modes = cases (is_among n l.common_modes) (sym told) is modes
    where
      cases : (b : Bool) → is_common t st.parts.commons n ≡ b
          → m.held ≡ cond b l.held (with_these (each_in (Mode n) (common_gained n l.held)) l.held)
          → m.common_modes ≡ cond b l.common_modes (with_mode n l.common_modes) → AfterDeal s st by (common_deal st t n) (set loops t m)
      cases true e is modes = rw e (unchanged is modes)
      cases false e is modes =
          let low : IsLow (Mode n) = omega (arith, lt) in
          let refs : references_of t (each_in (Mode n) (common_gained n l.held)) ≡ map (held_by (in_mode t n)) (items_gained (λ i. has (in_mode t n) i st.edges) (common_items st t)) =
          each_item t (Mode n) (common_gained n l.held) ∙ ap (map (held_by (in_mode t n))) (gained_are n) in
          rw e (subst (λ (rs : List Reference). AreLoops s (with_common n) (flowed (grows rs (moves_to (owed by) [])) st.edges) (set loops t m)) refs
          (loops_get s st.parts (with_common n) st.edges loops by t m (each_in (Mode n) (common_gained n l.held)) h within (λ i k e. e) is
          (subst IsOrdered (sym is) (gained_order n low)) (gained_items n low) (others_common n) (modes ∙ own_common n lt e)))

-- more room in one loop
pub room_kept : (s : Script) (st : State) (before after : List Loop) (t : ℕ) → t < length before
    → HasMoreRoom t before after → AreLoops s st.parts st.edges before → AreLoops s st.parts st.edges after
room_kept s st before after t within more h =
    subst (AreLoops s st.parts st.edges) (sym more.only_room)
    (unchanged s st before t (record (loop_at t before) { room = (loop_at t after).room }) h within refl refl)
