-- What a loop tells of a state: its items, its modes, and the places of an item.
use Rattle.std.proofs.Common.{◌≡◌, ℕ, zero, suc, ◌+◌, ◌-◌, ◌<◌, ◌≤◌, Bool, true, false, not, cond, ◌&&◌, ◌||◌, eqb, List, [], ◌∷◌, length, map, get_or, set, Option, Some, None, refl, sym, ap, ◌∙◌, subst, arith, inl, inr}
use Rattle.std.specs.Prelude.{slice_get}
use Rattle.std.specs.List.{filter, list_any, All, AllPairs, range_with_len}
use Rattle.std.proofs.lemmas.Bool.{cases_lt, eqb-true, ne_eqb}
use Rattle.std.proofs.lemmas.Option.{get_or_from_slice_get, slice_get_past, slice_get_within}
use Rattle.std.proofs.lemmas.List.{get_or_read, length-map}
use Rattle.std.proofs.lemmas.List.Filters.{length-filter_both}
use Rattle.std.proofs.lemmas.List.FromFn.{length-range_with_len}
use Rattle.std.proofs.lemmas.List.Elements.{All-nil, All-cons, All-head, All-tail, All-weaker, All-filter, All-map, filter_agree}
use Rattle.std.proofs.lemmas.List.Kept.{AllPairs-cons}
use Rattle.std.proofs.lemmas.List.Folds.{list_any_none}
use Rattle.cf_ids.specs.declared.numbers.Item.{Item}
use Rattle.cf_ids.specs.declared.numbers.ItemKind.{ItemKind}
use Rattle.cf_ids.specs.declared.limits.TheConstants.{MODES}
use Rattle.rl_base.specs.declared.places.Place.{Place}
use Rattle.rl_base.specs.declared.places.Place.TheVariants.{Common, Mode}
use Rattle.rl_base.specs.Modes.{rank, places, all_modes, keeps_open, is_empty}
use Rattle.rl_modes.specs.Loops.{Holding, Loop, is_of, holds_at, items_at, is_among}
use Rattle.rl_modes.proofs.Cuts.{length-filter-le}
use Rattle.cf_syntax.specs.declared.script.Script.{Script}
use Rattle.cf_graph.specs.Holders.{in_mode}
use Rattle.cf_graph.specs.Edges.{Reference, has}
use Rattle.cf_contents.specs.Contents.{Object}
use Rattle.cf_contents.specs.Items.{kind_of}
use Rattle.cf_next.proofs.LineLaws.{none-past}
use Rattle.cf_model.specs.State.{Parts, State, objects_of, modes_of, is_common}
use Rattle.cf_model.specs.Things.{Thing, thing_of, thing_at, opens_thing}
use Rattle.cf_model.specs.Deals.{holder_at, common_modes, loop_places, places_added}
use Rattle.cf_loops.specs.Following.{AreLoops, IsLoop, IsItem, loop_at, no_loop, kind_in}
use Rattle.cf_loops.specs.Changing.{is_shared, places_at, shared_places, places_gained, places_left}
use Rattle.cf_loops.proofs.Ranging.{any_agree, filter_same, any_map, filter_map, filter_turned, range_within, range_passes, among_range}
use Rattle.cf_loops.proofs.Ordering.{Before, pairs_head, pairs_tail}
use Rattle.cf_loops.proofs.Telling.{held_is}

-- ---- the loop of a thread

pub loop_past : (ls : List Loop) (k : ℕ) → length ls ≤ k → loop_at k ls ≡ no_loop
loop_past [] k le = refl
loop_past (l ∷ ls) zero le = absurd (omega arith)
loop_past (l ∷ ls) (suc k) le = loop_past ls k (omega (arith, le))

pub loop_found : (s : Script) (p : Parts) (es : List Reference) (loops : List Loop) (t : ℕ) (l : Loop)
    → AreLoops s p es loops → Some l ≡ slice_get loops t → IsLoop s p es t l
loop_found s p es loops t l h found = subst (IsLoop s p es t) (get_or_from_slice_get loops t l no_loop (sym found)) (h.loops_are t)

pub loop_missing : (s : Script) (p : Parts) (es : List Reference) (loops : List Loop) (t : ℕ) → AreLoops s p es loops
    → None ≡ slice_get loops t → IsLoop s p es t no_loop
loop_missing s p es loops t h none = subst (IsLoop s p es t) (loop_past loops t (none-past loops t none)) (h.loops_are t)

pub found_within : (loops : List Loop) (t : ℕ) (l : Loop) → Some l ≡ slice_get loops t → t < length loops
found_within loops t l found = slice_get_within loops t l (sym found)

pub missing_is : (loops : List Loop) (t : ℕ) → None ≡ slice_get loops t → loop_at t loops ≡ no_loop
missing_is loops t none = loop_past loops t (none-past loops t none)

pub found_is : (loops : List Loop) (t : ℕ) (l : Loop) → Some l ≡ slice_get loops t → loop_at t loops ≡ l
found_is loops t l found = get_or_from_slice_get loops t l no_loop (sym found)

-- ---- items of a place

abbrev pub ids_at : Place → List Holding → List ℕ
ids_at q hs = map (λ i. i.id) (items_at q hs)

ids_tell : (q : Place) (k : ℕ) (hs : List Holding) → list_any (λ x. eqb x k) (ids_at q hs) ≡ holds_at hs k q
ids_tell q k [] = refl
ids_tell q k (h ∷ hs) = by (eqb (rank h.place) (rank q)) (ids_tell q k hs)
  where
    by : (b : Bool) → list_any (λ x. eqb x k) (ids_at q hs) ≡ holds_at hs k q
        → list_any (λ x. eqb x k) (map (λ i. i.id) (map (λ x. x.item) (cond b (h ∷ filter (λ x. eqb (rank x.place) (rank q)) hs) (filter (λ x. eqb (rank x.place) (rank q)) hs)))) ≡ ((b && eqb h.item.id k) || holds_at hs k q)
    by true rest = ap (λ (b : Bool). eqb h.item.id k || b) rest
    by false rest = rest

items_above : (q : Place) (h : Holding) (hs : List Holding) → rank h.place ≡ rank q → All (Before h) hs
    → All (λ b. h.item.id < b.id) (items_at q hs)
items_above q h [] e all = All-nil _
items_above q h (x ∷ xs) e all = by (eqb (rank x.place) (rank q)) refl (items_above q h xs e (All-tail (Before h) x xs all))
  where
    by : (b : Bool) → eqb (rank x.place) (rank q) ≡ b → All (λ c. h.item.id < c.id) (items_at q xs)
        → All (λ c. h.item.id < c.id) (map (λ y. y.item) (cond b (x ∷ filter (λ y. eqb (rank y.place) (rank q)) xs) (filter (λ y. eqb (rank y.place) (rank q)) xs)))
    by true t rest =
        let first : Before h x = All-head (Before h) x xs all in
        All-cons (λ (c : Item). h.item.id < c.id) x.item (items_at q xs) (first.seconds (e ∙ sym (eqb-true _ _ t))) rest
    by false t rest = rest

pub items_rise : (q : Place) (hs : List Holding) → AllPairs Before hs → AllPairs (λ a b. a.id < b.id) (items_at q hs)
items_rise q [] pairs = λ i j d lt below. absurd (omega arith)
items_rise q (h ∷ hs) pairs = by (eqb (rank h.place) (rank q)) refl (items_rise q hs (pairs_tail h hs pairs))
  where
    by : (b : Bool) → eqb (rank h.place) (rank q) ≡ b → AllPairs (λ a c. a.id < c.id) (items_at q hs)
        → AllPairs (λ a c. a.id < c.id) (map (λ y. y.item) (cond b (h ∷ filter (λ y. eqb (rank y.place) (rank q)) hs) (filter (λ y. eqb (rank y.place) (rank q)) hs)))
    by true t rest = AllPairs-cons (λ (a c : Item). a.id < c.id) h.item (items_at q hs) (items_above q h hs (eqb-true _ _ t) (pairs_head h hs pairs)) rest
    by false t rest = rest

ids_rise : (is : List Item) → AllPairs (λ a b. a.id < b.id) is → AllPairs (λ x y. x < y) (map (λ i. i.id) is)
ids_rise [] pairs = λ i j d lt below. absurd (omega arith)
ids_rise (x ∷ xs) pairs =
    AllPairs-cons (λ (a b : ℕ). a < b) x.id (map (λ i. i.id) xs)
    (All-map (λ (b : ℕ). x.id < b) (λ (i : Item). i.id) xs (λ k d lt. pairs 0 (suc k) d (omega arith) (omega arith)))
    (ids_rise xs (λ i j d lt below. pairs (suc i) (suc j) d (omega arith) (omega arith)))

-- what has a kind was made
made_of_kind : (obs : List Object) (i : ℕ) (k : ItemKind) → kind_in (thing_of (slice_get obs i)) ≡ Some k
    → i < length obs
made_of_kind obs i k e = elim (cases_lt i (length obs)) [
  | inl lt ↦ lt
  | inr le ↦ absurd (none (slice_get obs i) (slice_get_past obs i le) e)
]
  where
    none : (ob : Option Object) → ob ≡ None → kind_in (thing_of ob) ≡ Some k → ⊥
    none None q e = cc
    none (Some x) q e = cc

ids_made : (s : Script) (p : Parts) (q : Place) (hs : List Holding) → All (IsItem s p) hs
    → All (λ x. (0 ≤ x) × (x < 0 + length p.objects)) (ids_at q hs)
ids_made s p q hs all =
    let kept : All (IsItem s p) (filter (λ x. eqb (rank x.place) (rank q)) hs) = All-filter (λ x. eqb (rank x.place) (rank q)) (IsItem s p) hs all in
    All-map (λ (x : ℕ). (0 ≤ x) × (x < 0 + length p.objects)) (λ (i : Item). i.id) (items_at q hs)
    (All-map (λ (i : Item). (0 ≤ i.id) × (i.id < 0 + length p.objects)) (λ (x : Holding). x.item) (filter (λ x. eqb (rank x.place) (rank q)) hs)
    (All-weaker (IsItem s p) (λ (x : Holding). (0 ≤ x.item.id) × (x.item.id < 0 + length p.objects)) (λ h is. (omega arith, omega (arith, made_of_kind p.objects h.item.id h.item.kind is.kind)))
    (filter (λ x. eqb (rank x.place) (rank q)) hs) kept))

module _ (s : Script) (p : Parts) (es : List Reference) (t : ℕ) (l : Loop) (h : IsLoop s p es t l) where
  -- the items of a place are those of the state, in order
  pub items_told : (q : Place) → ids_at q l.held ≡ filter (λ i. has (holder_at t q) i es) (objects_of p)
  items_told q =
      sym (range_passes (λ i. has (holder_at t q) i es) (length p.objects) 0 (ids_at q l.held)
      (ids_rise (items_at q l.held) (items_rise q l.held h.ordered.in_order))
      (ids_made s p q l.held h.items)
      (λ k le. held_is s p es t l h q k ∙ sym (ids_tell q k l.held)))

  opens_told : (x : Option Thing) (k : ItemKind) → kind_in x ≡ Some k → keeps_open k ≡ opens_thing x
  opens_told None k e = absurd cc
  opens_told (Some x) k e = ap keeps_open (same (kind_of x.item) k e)
    where
      same : (a b : ItemKind) → ◌≡◌ {A = Option ItemKind} (Some a) (Some b) → b ≡ a
      same a b e = cc

  pub empty_told : (m : ℕ)
      → is_empty (λ i. keeps_open i.kind) (items_at (Mode m) l.held) ≡ is_empty (λ i. opens_thing (thing_at p i)) (filter (λ i. has (in_mode t m) i es) (objects_of p))
  empty_told m =
      let here : All (IsItem s p) (filter (λ x. eqb (rank x.place) (rank (Mode m))) l.held) = All-filter (λ x. eqb (rank x.place) (rank (Mode m))) (IsItem s p) l.held h.items in
      let agree : All (λ (i : Item). keeps_open i.kind ≡ opens_thing (thing_at p i.id)) (items_at (Mode m) l.held) =
      All-map (λ (i : Item). keeps_open i.kind ≡ opens_thing (thing_at p i.id)) (λ (x : Holding). x.item) (filter (λ x. eqb (rank x.place) (rank (Mode m))) l.held)
      (All-weaker (IsItem s p) (λ (x : Holding). keeps_open x.item.kind ≡ opens_thing (thing_at p x.item.id)) (λ x is. opens_told (thing_at p x.item.id) x.item.kind is.kind) (filter (λ x. eqb (rank x.place) (rank (Mode m))) l.held) here) in
      ap not (any_agree (λ i. keeps_open i.kind) (λ i. opens_thing (thing_at p i.id)) (items_at (Mode m) l.held) agree
      ∙ sym (any_map (λ i. opens_thing (thing_at p i)) (λ (i : Item). i.id) (items_at (Mode m) l.held))
      ∙ ap (list_any (λ i. opens_thing (thing_at p i))) (items_told (Mode m)))

  -- no mode past those of the script holds anything
  none_past : (i k : ℕ) → length s.modes ≤ k → holds_at l.held i (Mode k) ≡ false
  none_past i k le = list_any_none (is_of i (Mode k)) l.held (All-weaker (IsItem s p) (λ x. is_of i (Mode k) x ≡ false) (λ x is. other x is.place) l.held h.items)
    where
      other : (x : Holding) → rank x.place ≤ length s.modes → is_of i (Mode k) x ≡ false
      other x low = let f : eqb (rank x.place) (k + 1) ≡ false = ne_eqb (rank x.place) (k + 1) (λ e. omega (arith, e, low, le)) in rw f refl

-- ---- places

modes_long : (f : Place → Bool) (n m a : ℕ) → n ≤ m → ((k : ℕ) → a + n ≤ k → f (Mode k) ≡ false)
    → filter f (map Mode (range_with_len a m)) ≡ filter f (map Mode (range_with_len a n))
modes_long f zero zero a le none = refl
modes_long f zero (suc m) a le none = rw (none a (omega arith)) (modes_long f zero m (a + 1) (omega arith) (λ k up. none k (omega arith)))
modes_long f (suc n) zero a le none = absurd (omega arith)
modes_long f (suc n) (suc m) a le none =
    ap (λ (ps : List Place). cond (f (Mode a)) (Mode a ∷ ps) ps) (modes_long f n m (a + 1) (omega arith) (λ k up. none k (omega arith)))

places_long : (f : Place → Bool) (n m : ℕ) → n ≤ m → ((k : ℕ) → n ≤ k → f (Mode k) ≡ false)
    → filter f (places (range_with_len 0 m)) ≡ filter f (places (range_with_len 0 n))
places_long f n m le none =
    ap (λ (ps : List Place). cond (f Common) (Common ∷ ps) ps) (modes_long f n m 0 le (λ k up. none k (omega arith)))

-- nothing is anywhere in a loop that is not there
pub places_none : (i : ℕ) → places_at i no_loop ≡ []
unfolding all_modes
places_none i = places_long (λ q. false) 0 MODES (omega arith) (λ k le. refl)

shared_modes : (f : ℕ → Bool) (n : ℕ)
    → filter (is_shared (filter f (range_with_len 0 n))) (places (range_with_len 0 n)) ≡ places (filter f (range_with_len 0 n))
shared_modes f n =
    let cms = filter f (range_with_len 0 n) in
    ap (λ (ps : List Place). Common ∷ ps)
    (filter_map (is_shared cms) Mode (range_with_len 0 n)
    ∙ ap (map Mode) (filter_same (λ m. is_among m cms) f (range_with_len 0 n)
    (All-weaker (λ x. (0 ≤ x) × (x < 0 + n)) (λ x. is_among x cms ≡ f x) (λ x w. among_range f n x (omega (arith, w.1))) (range_with_len 0 n) (range_within 0 n))))

module _ (s : Script) (p : Parts) (es : List Reference) (t : ℕ) (l : Loop) (h : IsLoop s p es t l) (few : length s.modes ≤ MODES) where
  low_places : (i : ℕ) → places_at i l ≡ filter (holds_at l.held i) (places (modes_of s))
  unfolding all_modes
  low_places i = places_long (holds_at l.held i) (length s.modes) MODES few (λ k le. none_past s p es t l h i k le)

  holds_told : (i : ℕ) (modes : List ℕ)
      → filter (λ q. has (holder_at t q) i es) (places modes) ≡ filter (holds_at l.held i) (places modes)
  holds_told i modes = filter_agree (λ q. has (holder_at t q) i es) (holds_at l.held i) (λ q. held_is s p es t l h q i) (places modes)

  -- the places of an item
  pub places_told : (i : ℕ) → loop_places s t i es ≡ places_at i l
  places_told i = holds_told i (modes_of s) ∙ sym (low_places i)

  module _ (commons : l.common_modes ≡ common_modes s t p) where
    -- the places that are the common items or a common mode
    pub shared_told : (i : ℕ) → shared_places i l ≡ places_left i Common l
    shared_told i =
        let f = is_common t p.commons in
        let all = places (modes_of s) in
        ap (filter (is_shared l.common_modes)) (low_places i)
        ∙ filter_turned (is_shared l.common_modes) (holds_at l.held i) all
        ∙ ap (filter (holds_at l.held i)) (ap (λ (cs : List ℕ). filter (is_shared cs) all) commons ∙ shared_modes f (length s.modes) ∙ ap places (sym commons))

    pub left_told : (i : ℕ)
        → places_left i Common l ≡ filter (λ q. has (holder_at t q) i es) (places (common_modes s t p))
    left_told i = sym (holds_told i l.common_modes) ∙ ap (λ (cs : List ℕ). filter (λ q. has (holder_at t q) i es) (places cs)) commons

    pub gained_told : (i : ℕ)
        → places_gained i Common l ≡ filter (λ q. not (has (holder_at t q) i es)) (places (common_modes s t p))
    gained_told i =
        filter_agree (λ q. not (holds_at l.held i q)) (λ q. not (has (holder_at t q) i es)) (λ q. ap not (sym (held_is s p es t l h q i))) (places l.common_modes)
        ∙ ap (λ (cs : List ℕ). filter (λ q. not (has (holder_at t q) i es)) (places cs)) commons

-- ---- by the loops of all threads

pub thread_there : (s : Script) (p : Parts) (es : List Reference) (loops : List Loop) (t : ℕ) → AreLoops s p es loops
    → None ≡ slice_get loops t → t < s.thread_count → ⊥
thread_there s p es loops t h none lt = omega (arith, none-past loops t none, h.threads, lt)

pub among_told : (s : Script) (p : Parts) (es : List Reference) (loops : List Loop) (t m : ℕ) → AreLoops s p es loops
    → t < length loops → m < length s.modes → is_among m (loop_at t loops).common_modes ≡ is_common t p.commons m
among_told s p es loops t m h within lt = ap (is_among m) (h.commons t (omega (arith, within, h.threads))) ∙ among_range (is_common t p.commons) (length s.modes) m lt

pub commons_found : (s : Script) (p : Parts) (es : List Reference) (loops : List Loop) (t : ℕ) (l : Loop)
    → AreLoops s p es loops → Some l ≡ slice_get loops t → l.common_modes ≡ common_modes s t p
commons_found s p es loops t l h found =
    ap (λ (m : Loop). m.common_modes) (sym (found_is loops t l found)) ∙ h.commons t (omega (arith, found_within loops t l found, h.threads))

pub common_told : (s : Script) (p : Parts) (es : List Reference) (loops : List Loop) (t m : ℕ) (l : Loop)
    → AreLoops s p es loops → Some l ≡ slice_get loops t → m < length s.modes
    → is_among m l.common_modes ≡ is_common t p.commons m
common_told s p es loops t m l h found lt =
    ap (λ (x : Loop). is_among m x.common_modes) (sym (found_is loops t l found)) ∙ among_told s p es loops t m h (found_within loops t l found) lt

-- ---- a loop that is read by its index, and put back

pub at_read : (loops items : List Loop) (t k : ℕ) (x : Loop) → items ≡ loops → k ≡ t → t < length loops
    → x ≡ get_or items k x → x ≡ loop_at t loops
at_read loops items t k x same at within is =
    let here : x ≡ get_or loops t x = is ∙ ap (λ (ls : List Loop). get_or ls k x) same ∙ ap (λ (n : ℕ). get_or loops n x) at in
    get_or_read loops t x within here no_loop

pub at_set : (P : List Loop → Type 0) (loops items : List Loop) (t k : ℕ) (m : Loop) → items ≡ loops → k ≡ t
    → P (set loops t m) → P (set items k m)
at_set P loops items t k m same at h = subst P (ap (λ (ls : List Loop). set ls t m) (sym same) ∙ ap (λ (n : ℕ). set items n m) (sym at)) h

-- ---- how many places an item enters

pub added_count : (s : Script) (st : State) (loops : List Loop) (t i : ℕ) (l : Loop)
    → AreLoops s st.parts st.edges loops → Some l ≡ slice_get loops t
    → (length l.common_modes ≤ MODES) × (1 + length l.common_modes - length (shared_places i l) ≡ length (places_added s t i st Common))
added_count s st loops t i l h found =
    let is = loop_found s st.parts st.edges loops t l h found in
    let commons = commons_found s st.parts st.edges loops t l h found in
    let both = length-filter_both (holds_at l.held i) (λ q. not (holds_at l.held i q)) (λ q. refl) (places l.common_modes) in
    let few : length l.common_modes ≤ length s.modes = omega (arith, ap length commons, length-filter-le (is_common t st.parts.commons) (modes_of s), length-range_with_len 0 (length s.modes)) in (
      omega (arith, few, h.few),
      omega (
        arith,
        both,
        length-map l.common_modes Mode,
        ap length (shared_told s st.parts st.edges t l is h.few commons i),
        ap length (gained_told s st.parts st.edges t l is h.few commons i),
      ),
    )
