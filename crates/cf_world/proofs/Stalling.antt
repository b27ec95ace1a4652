-- Nobody can go after a stall: so where a thread can go the journal has none, and one that has a stall ends with it.
use Rattle.std.proofs.Common.{◌≡◌, ℕ, zero, suc, ◌+◌, ◌-◌, ◌<◌, ◌≤◌, ◌∙◌, ◌⊎◌, Bool, true, false, ◌&&◌, ◌||◌, not, cond, List, [], ◌∷◌, Option, Some, None, refl, sym, ap, subst, arith, inl, inr}
use Rattle.std.specs.Prelude.{slice_get, length}
use Rattle.std.specs.List.{list_all, list_any, range_with_len}
use Rattle.std.proofs.lemmas.Bool.{and_parts, cases_eq, cases_lt}
use Rattle.cf_syntax.specs.declared.script.Script.{Script}
use Rattle.cf_next.specs.declared.action.Action.{Action}
use Rattle.cf_next.specs.declared.action.Action.TheVariants as actions
use Rattle.cf_model.specs.declared.entry.Entry.{Entry}
use Rattle.cf_model.specs.State.{State, start, threads_of}
use Rattle.cf_model.specs.Journals.{Next, can_go, is_going, sleeps, all_sleep, due_date, is_none, is_stall, has_stalled, after_action, state_from, After, IsLegalAs, IsLegalFrom, IsLegal, IsLastIf}

above : (b c : ℕ) → b ≤ c → (b ≡ c → ⊥) → b + 1 ≤ c
above b c le apart = elim (cases_lt b c) [
  | inl lt ↦ omega (arith, lt)
  | inr ge ↦ absurd (apart (omega (arith, le, ge)))
]

-- what holds of each number of a range holds of one of them
pub all_at : (f : ℕ → Bool) (n a t : ℕ) → list_all f (range_with_len a n) ≡ true → a ≤ t → t < a + n → f t ≡ true
all_at f zero a t all low high = absurd (omega (arith, low, high))
all_at f (suc n) a t all low high =
    by (cases_eq a t) (λ more. all_at f n (a + 1) t (and_parts (f a) (list_all f (range_with_len (a + 1) n)) all).1 more (omega (arith, high)))
  where
    parts : (f a ≡ true) × (list_all f (range_with_len (a + 1) n) ≡ true)
    parts = and_parts (f a) (list_all f (range_with_len (a + 1) n)) all

    by : (a ≡ t) ⊎ (a ≡ t → ⊥) → (a + 1 ≤ t → f t ≡ true) → f t ≡ true
    by (inl e) rest = subst (λ (k : ℕ). f k ≡ true) e parts.0
    by (inr other) rest = rest (above a t low other)

-- where all sleep that are going, a thread that is going sleeps, and cannot go
asleep_stays : (going asleep : Bool) → (not going || asleep) ≡ true → (going && not asleep) ≡ false
asleep_stays true true e = refl
asleep_stays true false e = absurd cc
asleep_stays false asleep e = refl

stall_stops : (s : Script) (st : State) (t : ℕ) → t < s.thread_count → all_sleep s st ≡ true → can_go st t ≡ false
stall_stops s st t within all =
    asleep_stays (is_going st t) (sleeps st t)
    (all_at (λ u. not (is_going st u) || sleeps st u) s.thread_count 0 t (and_parts (list_any (is_going st) (threads_of s)) _ all).1 (omega arith) (omega (arith, within)))

after_stall : (s : Script) (st : State) (e : Entry) (es : List Entry) (a : Action) (t : ℕ) → t < s.thread_count
    → IsLegalAs s st e a → IsLastIf a es → is_stall a ≡ true
    → can_go (state_from s (after_action s e.thread st a) es) t ≡ false
after_stall s st e es actions.Stall t within legal last stalls =
    rw last (stall_stops s st t within (and_parts (all_sleep s st) (is_none (due_date s st)) legal.2).0)
after_stall s st e es a t within legal last stalls = absurd cc

stalled_stops : (s : Script) (st : State) (es : List Entry) (t : ℕ) → t < s.thread_count → IsLegalFrom s st es
    → has_stalled es ≡ true → can_go (state_from s st es) t ≡ false
stalled_stops s st [] t within legal stalled = absurd cc
stalled_stops s st (e ∷ es) t within legal stalled =
    by (is_stall e.action) refl stalled (stalled_stops s (after_action s e.thread st e.action) es t within legal.2)
  where
    by : (b : Bool) → is_stall e.action ≡ b → (b || has_stalled es) ≡ true
        → (has_stalled es ≡ true → can_go (state_from s (after_action s e.thread st e.action) es) t ≡ false)
        → can_go (state_from s (after_action s e.thread st e.action) es) t ≡ false
    by true stalls some rest = after_stall s st e es e.action t within legal.0 legal.1 stalls
    by false stalls some rest = rest some

goes_if : {A : Type 0} (b : Bool) (o : Option A) (a : A) → cond b o None ≡ Some a → b ≡ true
goes_if true o a e = refl
goes_if false o a e = absurd cc

-- a thread that does something next finds no stall
pub never_stalled : (s : Script) (es : List Entry) (t : ℕ) (a : Action) → t < s.thread_count → IsLegal s es
    → Next s (After s es) t ≡ Some a → has_stalled es ≡ false
never_stalled s es t a within legal next = by (has_stalled es) refl
  where
    by : (b : Bool) → has_stalled es ≡ b → has_stalled es ≡ false
    by true e =
        let stops = stalled_stops s (start s) es t within legal e in
        let goes = goes_if (can_go (After s es) t) _ a next in
        let both : true ≡ false = sym goes ∙ stops in absurd cc
    by false e = e

-- ---- a stall is the last entry

no_more : (a : Action) (e : Entry) (es : List Entry) → IsLastIf a (e ∷ es) → is_stall a ≡ false
no_more actions.Stall e es last = absurd cc
no_more a e es last = refl

pub stall_is_last : (s : Script) (st : State) (es : List Entry) (n : ℕ) (e : Entry) → IsLegalFrom s st es
    → slice_get es n ≡ Some e → n + 1 ≡ length es → is_stall e.action ≡ has_stalled es
stall_is_last s st [] n e legal at end = absurd cc
stall_is_last s st (x ∷ []) zero e legal at end =
    let same : x ≡ e = cc in ap (λ (y : Entry). is_stall y.action) (sym same) ∙ or_none (is_stall x.action)
  where
    or_none : (b : Bool) → b ≡ (b || false)
    or_none true = refl
    or_none false = refl
stall_is_last s st (x ∷ []) (suc n) e legal at end = absurd (omega (arith, end))
stall_is_last s st (x ∷ y ∷ es) zero e legal at end = absurd (omega (arith, end))
stall_is_last s st (x ∷ y ∷ es) (suc n) e legal at end =
    stall_is_last s (after_action s x.thread st x.action) (y ∷ es) n e legal.2 at (omega (arith, end))
    ∙ ap (λ (b : Bool). b || has_stalled (y ∷ es)) (sym (no_more x.action y es legal.1))

pub not_stall : (a : Action) → (a ≡ actions.Stall → ⊥) → is_stall a ≡ false
not_stall actions.Stall h = absurd (h refl)
not_stall a h = refl

pub last_there : (es : List Entry) (e : Entry) → slice_get es (length es - 1) ≡ Some e → (length es - 1) + 1 ≡ length es
last_there [] e at = absurd cc
last_there (x ∷ es) e at = omega arith
