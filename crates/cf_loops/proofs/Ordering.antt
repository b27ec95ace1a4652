-- Holdings stay in order when some come in and others go.
use Rattle.std.proofs.Common.{◌≡◌, ℕ, suc, ◌<◌, ◌≤◌, Bool, true, false, cond, ◌&&◌, ◌||◌, eqb, ltb, List, [], ◌∷◌, refl, arith}
use Rattle.std.specs.List.{filter, All, AllPairs}
use Rattle.std.proofs.lemmas.Bool.{or_parts}
use Rattle.std.proofs.lemmas.Bool.Decides.{nat_tests}
use Rattle.std.proofs.lemmas.List.Elements.{All-nil, All-cons, All-filter, All-weaker, All-head, All-tail}
use Rattle.std.proofs.lemmas.List.Kept.{AllPairs-cons, AllPairs-filter}
use Rattle.cf_ids.specs.declared.limits.TheConstants.{MODES}
use Rattle.rl_base.specs.Modes.{rank}
use Rattle.rl_modes.specs.Loops.{Holding, is_of, holds_at, stands_before, with_one}
use Rattle.rl_modes.specs.Fields.{Precedes, IsOrdered, entered, with_new}
use Rattle.cf_loops.specs.Changing.{AreLow}

abbrev pub Before : Holding → Holding → Type 0
Before = Precedes (λ h. rank h.place) (λ h. h.item.id)

pub pairs_head : (h : Holding) (hs : List Holding) → AllPairs Before (h ∷ hs) → All (Before h) hs
pairs_head h hs pairs = λ k d lt. pairs 0 (suc k) d (omega arith) (omega arith)

pub pairs_tail : (h : Holding) (hs : List Holding) → AllPairs Before (h ∷ hs) → AllPairs Before hs
pairs_tail h hs pairs = λ a b d lt below. pairs (suc a) (suc b) d (omega arith) (omega arith)

-- ---- by numbers

before_numbers : (a b x y : ℕ) → (ltb a b || (eqb a b && ltb x y)) ≡ true → (a ≤ b) × (a ≡ b → x < y)
before_numbers a b x y h = (grind (arith, nat_tests), λ e. grind (arith, nat_tests))

after_numbers : (a b x y : ℕ) → (ltb a b || (eqb a b && ltb x y)) ≡ false → (eqb a b && eqb x y) ≡ false
    → (b ≤ a) × (b ≡ a → y < x)
after_numbers a b x y h k = (grind (arith, nat_tests), λ e. grind (arith, nat_tests))

before_new : (n h : Holding) → stands_before n.item.id n.place h ≡ true → Before h n
before_new n h t = let both = before_numbers (rank h.place) (rank n.place) h.item.id n.item.id t in record { firsts = both.0; seconds = both.1 }

after_new : (n h : Holding) → stands_before n.item.id n.place h ≡ false → is_of n.item.id n.place h ≡ false → Before n h
after_new n h t f = let both = after_numbers (rank h.place) (rank n.place) h.item.id n.item.id t f in record { firsts = both.0; seconds = both.1 }

after_all : (n h x : Holding) → Before n h → Before h x → Before n x
after_all n h x a b = record {
  firsts = omega (arith, a.firsts, b.firsts);
  seconds = λ e.
      let first : rank n.place ≡ rank h.place = omega (arith, a.firsts, b.firsts, e) in
      let second : rank h.place ≡ rank x.place = omega (arith, a.firsts, b.firsts, e) in
      omega (arith, a.seconds first, b.seconds second);
}

-- ---- one more

pub all_with_one : (P : Holding → Type 0) (n : Holding) (hs : List Holding) → P n → All P hs → All P (with_one n hs)
all_with_one P n [] new all = All-cons P n [] new all
all_with_one P n (h ∷ hs) new all = by (stands_before n.item.id n.place h) (all_with_one P n hs new (All-tail P h hs all))
  where
    by : (b : Bool) → All P (with_one n hs) → All P (cond b (h ∷ with_one n hs) (n ∷ h ∷ hs))
    by true rest = All-cons P h (with_one n hs) (All-head P h hs all) rest
    by false rest = All-cons P n (h ∷ hs) new all

pairs_with_one : (n : Holding) (hs : List Holding) → AllPairs Before hs → holds_at hs n.item.id n.place ≡ false
    → AllPairs Before (with_one n hs)
pairs_with_one n [] pairs absent = AllPairs-cons Before n [] (All-nil (Before n)) pairs
pairs_with_one n (h ∷ hs) pairs absent =
    let parts = or_parts (is_of n.item.id n.place h) (holds_at hs n.item.id n.place) absent in
    by (stands_before n.item.id n.place h) refl parts.0 (pairs_with_one n hs (pairs_tail h hs pairs) parts.1)
  where
    by : (b : Bool) → stands_before n.item.id n.place h ≡ b → is_of n.item.id n.place h ≡ false
        → AllPairs Before (with_one n hs)
        → AllPairs Before (cond b (h ∷ with_one n hs) (n ∷ h ∷ hs))
    by true t other rest = AllPairs-cons Before h (with_one n hs) (all_with_one (Before h) n hs (before_new n h t) (pairs_head h hs pairs)) rest
    by false f other rest =
        let first : Before n h = after_new n h f other in
        AllPairs-cons Before n (h ∷ hs)
        (All-cons (Before n) h hs first (All-weaker (Before h) (Before n) (λ x b. after_all n h x first b) hs (pairs_head h hs pairs))) pairs

pub ordered_with_one : (n : Holding) (hs : List Holding) → IsOrdered hs → holds_at hs n.item.id n.place ≡ false
    → rank n.place ≤ MODES → IsOrdered (with_one n hs)
ordered_with_one n hs h absent low = record {
  in_order = pairs_with_one n hs h.in_order absent;
  below = all_with_one (λ x. rank x.place ≤ MODES) n hs low h.below;
}

ordered_entered : (n : Holding) (hs : List Holding) → IsOrdered hs → rank n.place ≤ MODES → IsOrdered (entered n hs)
ordered_entered n hs h low = by (holds_at hs n.item.id n.place) refl
  where
    by : (b : Bool) → holds_at hs n.item.id n.place ≡ b → IsOrdered (cond b hs (with_one n hs))
    by true e = h
    by false e = ordered_with_one n hs h e low

pub ordered_with_new : (ns hs : List Holding) → IsOrdered hs → AreLow ns → IsOrdered (with_new ns hs)
ordered_with_new [] hs h low = h
ordered_with_new (n ∷ ns) hs h low =
    ordered_with_new ns (entered n hs) (ordered_entered n hs h (All-head (λ x. rank x.place ≤ MODES) n ns low)) (All-tail (λ x. rank x.place ≤ MODES) n ns low)

-- ---- some less

pub ordered_filter : (keep : Holding → Bool) (hs : List Holding) → IsOrdered hs → IsOrdered (filter keep hs)
ordered_filter keep hs h = record {
  in_order = AllPairs-filter Before keep hs h.in_order;
  below = All-filter keep (λ x. rank x.place ≤ MODES) hs h.below;
}
