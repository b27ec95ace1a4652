-- Journals in the serial order that are as long and have the same times are one.
use Rattle.std.proofs.Common.{◌≡◌, ℕ, zero, suc, ◌+◌, ◌<◌, ◌≤◌, List, [], ◌∷◌, ◌++◌, map, drop, length, Bool, true, false, cond, Option, Some, None, refl, sym, ap, ◌∙◌, subst, inl, inr, arith}
use Rattle.std.proofs.lemmas.Bool.{and_parts, cases_lt}
use Rattle.std.proofs.lemmas.Bool.Decides.{eqb_tells}
use Rattle.std.specs.List.{list_all, list_any, range_with_len}
use Rattle.std.specs.Prelude.{IsTrue, ◌&&◌, ◌||◌, not}
use Rattle.rl_base.specs.Dates.{has_come}
use Rattle.cf_syntax.specs.declared.script.Script.{Script}
use Rattle.cf_next.specs.declared.action.Action.{Action}
use Rattle.cf_next.specs.declared.action.Action.TheVariants as actions
use Rattle.cf_next.specs.Demands.{Demand, demand}
use Rattle.cf_next.specs.Next.{action_if}
use Rattle.cf_next.specs.Stands.{Stand, opening_stand, stop_stand}
use Rattle.cf_model.specs.declared.entry.Entry.{Entry}
use Rattle.cf_model.specs.State.{State, start, blank, stand_at, with_stand, threads_of}
use Rattle.cf_model.specs.Known.{facts_of}
use Rattle.cf_model.specs.Steps.{acted, demanded, frames_at, stand_after, step_of, stopped_at}
use Rattle.cf_model.specs.Journals.{after_action, all_sleep, can_go, due_date, is_none, Next, AllowsTick, AllowsStall, IsLegalStep, IsLegalAs, IsLegalFrom, is_going, sleeps}
use Rattle.cf_model.specs.Choices.{steps, moves_time, choice_in}
use Rattle.cf_model.specs.Sharing.{times_in, tick_times}
use Rattle.cf_model.specs.Serial.{picked, moved_by, IsSerialFrom}
use Rattle.cf_model.proofs.Acting.{next_is}
use Rattle.cf_model.proofs.Entries.{ActionView, is_tick, is_stall, is_step, action_view, same_entry}
use Rattle.cf_model.proofs.Tokens.{at_other, at_own}
use Rattle.cf_history.specs.Clocks.{IsTimeGiven, IsTickBy, times_left, IsTimedFrom}
use Rattle.cf_history.specs.Laws.{IsOnlySerial, IsOnlyTimed}

-- ---- a thread that the script does not have does nothing

abbrev NoneBeyond : ℕ → List Stand → Type 0
NoneBeyond n ss = (t : ℕ) → n ≤ t → stand_at t ss ≡ blank

blank_past : (a n t : ℕ) → n ≤ t → stand_at t (map opening_stand (range_with_len a n)) ≡ blank
blank_past a zero zero h = refl
blank_past a zero (suc t) h = refl
blank_past a (suc n) zero h = absurd (omega arith)
blank_past a (suc n) (suc t) h = blank_past (a + 1) n t (omega arith)

still_demands : (s : Script) (st : State) (t : ℕ) (d : Demand) → demanded s st t ≡ Some d → stand_at t st.stands ≡ blank
    → ⊥
still_demands s st t d e none = by (sym (ap (demand s (facts_of st) t) none) ∙ e)
  where
    by : ◌≡◌ {A = Option Demand} None (Some d) → ⊥
    by e = cc

beyond_put : (n u : ℕ) (new : Stand) (ss : List Stand) → (n ≤ u → new ≡ blank) → NoneBeyond n ss
    → NoneBeyond n (with_stand u new ss)
beyond_put n u new ss mine h t far = elim (eqb_tells t u) [
  | inl e ↦ subst (λ (v : ℕ). stand_at v (with_stand u new ss) ≡ blank) (sym e.1) (at_own blank u new ss ∙ mine (subst (λ (v : ℕ). n ≤ v) e.1 far))
  | inr e ↦ at_other blank t u new ss e.1 ∙ h t far
]

beyond_stopped : (n : ℕ) (stops : Option ℕ) (ss : List Stand) → NoneBeyond n ss → NoneBeyond n (stopped_at stops ss)
beyond_stopped n None ss h = h
beyond_stopped n (Some u) ss h = beyond_put n u (stop_stand (stand_at u ss)) ss (λ far. ap stop_stand (h u far)) h

beyond_acted : (s : Script) (t n : ℕ) (st : State) (d : Option Demand) → demanded s st t ≡ d → NoneBeyond n st.stands
    → NoneBeyond n (acted s t st d).stands
beyond_acted s t n st None e h = h
beyond_acted s t n st (Some d) e h =
    let step = step_of s t st (frames_at t st) d in
    beyond_stopped n step.stops (with_stand t (stand_after t d step st) st.stands)
    (beyond_put n t (stand_after t d step st) st.stands (λ far. absurd (still_demands s st t d e (h t far))) h)

beyond_after : (s : Script) (t n : ℕ) (st : State) (a : Action) → NoneBeyond n st.stands
    → NoneBeyond n (after_action s t st a).stands
beyond_after s t n st (actions.Tick time) h = h
beyond_after s t n st actions.Stall h = h
beyond_after s t n st a h = beyond_acted s t n st (demanded s st t) refl h

-- ---- what the lead may do

no_date_has_come : (d : Option ℕ) (n : ℕ) → IsTrue (has_come d n) → IsTrue (is_none d) → ⊥
no_date_has_come None n h k = absurd cc
no_date_has_come (Some d) n h k = absurd cc

first_time : (m n : ℕ) (xs ys : List ℕ) → m ∷ xs ≡ n ∷ ys → m ≡ n
first_time m n xs ys e = cc

all_at : (p : ℕ → Bool) (a n t : ℕ) → list_all p (range_with_len a n) ≡ true → a ≤ t → t < a + n → p t ≡ true
all_at p a zero t h low high = absurd (omega (arith, low, high))
all_at p a (suc n) t h low high =
    let parts = and_parts (p a) (list_all p (range_with_len (a + 1) n)) h in
    elim (cases_lt a t) [
      | inl later ↦ all_at p (a + 1) n t parts.1 (omega (arith, later)) (omega (arith, high))
      | inr here ↦ let same : a ≡ t = omega (arith, here, low) in subst (λ (u : ℕ). p u ≡ true) same parts.0
    ]

module _ (s : Script) (st : State) where
  -- no tick and stall are allowed after one journal
  not_both : (n : ℕ) → AllowsTick s st n → AllowsStall s st → ⊥
  not_both n h k =
      let date = due_date s st in
      let has_one = and_parts (all_sleep s st) (has_come date n) h in
      let has_none = and_parts (all_sleep s st) (is_none date) k in
      no_date_has_come date n has_one.1 has_none.1

  -- a thread that makes a step can go on
  goes : (t : ℕ) (a : Action) → Next s st t ≡ Some a → can_go st t ≡ true
  goes t a e = by (can_go st t) e
    where
      by : (b : Bool) → cond b (action_if s (facts_of st) t (frames_at t st) (demanded s st t)) None ≡ Some a → b ≡ true
      by true e = refl
      by false e = absurd cc

  awake_and_asleep : (going sleeping : Bool) → (going && not sleeping) ≡ true → (not going || sleeping) ≡ true → ⊥
  awake_and_asleep true true h k = cc
  awake_and_asleep true false h k = cc
  awake_and_asleep false sleeping h k = cc

  -- where all sleep no thread makes a step
  none_steps : (e : Entry) → NoneBeyond s.thread_count st.stands → IsTrue (all_sleep s st) → IsLegalStep s st e → ⊥
  none_steps e beyond h legal =
      let t = e.thread in
      let acts = next_is s st t e.action legal.next in
      let sleep = and_parts (list_any (is_going st) (threads_of s)) (list_all (λ u. not (is_going st u) || sleeps st u) (threads_of s)) h in
      elim (cases_lt t s.thread_count) [
        | inl there ↦ awake_and_asleep (is_going st t) (sleeps st t) (goes t e.action legal.next) (all_at (λ u. not (is_going st u) || sleeps st u) 0 s.thread_count t sleep.1 (omega arith) (omega (arith, there)))
        | inr far ↦ still_demands s st t acts.demand acts.demands (beyond t (omega (arith, far)))
      ]

  -- two legal entries of one thread with the same time make the same choice
  choices_agree : (a b : Action) (x y : Entry) → NoneBeyond s.thread_count st.stands → ActionView a → ActionView b
      → IsLegalAs s st x a → IsLegalAs s st y b → x.thread ≡ y.thread → ((n m : ℕ) → a ≡ actions.Tick n → b ≡ actions.Tick m → n ≡ m) → choice_in x.thread a ≡ choice_in y.thread b
  choices_agree _ _ x y beyond (is_tick n) (is_tick m) h k same e = ap (λ (z : ℕ). moves_time z) (e n m refl refl)
  choices_agree _ _ x y beyond (is_tick n) is_stall h k same e = absurd (not_both n h.2 k.2)
  choices_agree _ b x y beyond (is_tick n) (is_step _ w) h k same e =
      absurd (none_steps y beyond (and_parts (all_sleep s st) (has_come (due_date s st) n) h.2).0 (w.legal s st y k))
  choices_agree _ _ x y beyond is_stall (is_tick m) h k same e = absurd (not_both m k.2 h.2)
  choices_agree _ _ x y beyond is_stall is_stall h k same e = refl
  choices_agree _ b x y beyond is_stall (is_step _ w) h k same e =
      absurd (none_steps y beyond (and_parts (all_sleep s st) (is_none (due_date s st)) h.2).0 (w.legal s st y k))
  choices_agree a _ x y beyond (is_step _ v) (is_tick m) h k same e =
      absurd (none_steps x beyond (and_parts (all_sleep s st) (has_come (due_date s st) m) k.2).0 (v.legal s st x h))
  choices_agree a _ x y beyond (is_step _ v) is_stall h k same e =
      absurd (none_steps x beyond (and_parts (all_sleep s st) (is_none (due_date s st)) k.2).0 (v.legal s st x h))
  choices_agree a b x y beyond (is_step _ v) (is_step _ w) h k same e =
      v.choice x.thread ∙ ap (λ (z : ℕ). steps z) same ∙ sym (w.choice y.thread)

-- two ticks with the same times go to one
same_time : (a b : Action) (xs ys : List ℕ) → times_in a ++ xs ≡ times_in b ++ ys → (n m : ℕ) → a ≡ actions.Tick n
    → b ≡ actions.Tick m → n ≡ m
same_time a b xs ys e n m p q =
    first_time n m xs ys (sym (ap (λ (c : Action). times_in c ++ xs) p) ∙ e ∙ ap (λ (c : Action). times_in c ++ ys) q)

-- what is left after the same time, or after none
rest_of : (a : Action) (xs ys : List ℕ) → times_in a ++ xs ≡ times_in a ++ ys → xs ≡ ys
rest_of (actions.Tick n) xs ys e = ap (drop 1) e
rest_of a xs ys e = e

shorter : (m : ℕ) → zero ≡ suc m → ⊥
shorter m e = cc

less : (m n : ℕ) → suc m ≡ suc n → m ≡ n
less m n e = cc

same_from : (s : Script) (st : State) (pointer : ℕ) (es fs : List Entry) → NoneBeyond s.thread_count st.stands
    → IsLegalFrom s st es → IsLegalFrom s st fs
    → IsSerialFrom s st pointer es → IsSerialFrom s st pointer fs → length es ≡ length fs → tick_times es ≡ tick_times fs → es ≡ fs
same_from s st pointer [] [] beyond h k o q l e = refl
same_from s st pointer [] (y ∷ fs) beyond h k o q l e = absurd (shorter _ l)
same_from s st pointer (x ∷ es) [] beyond h k o q l e = absurd (shorter _ (sym l))
same_from s st pointer (x ∷ es) (y ∷ fs) beyond h k o q l e =
    let xs = tick_times es in
    let ys = tick_times fs in
    let chosen = choices_agree s st x.action y.action x y beyond (action_view x.action) (action_view y.action) h.0 k.0 (o.0 ∙ sym q.0) (same_time x.action y.action xs ys e) in
    let same = same_entry s st x y h.0 k.0 chosen in
    let left = rest_of x.action xs ys (subst (λ (z : Entry). times_in x.action ++ xs ≡ times_in z.action ++ ys) (sym same) e) in
    let legal = subst (λ (z : Entry). IsLegalFrom s (after_action s z.thread st z.action) fs) (sym same) k.2 in
    let next = moved_by pointer (picked s st pointer) in
    let order = subst (λ (z : Entry). IsSerialFrom s (after_action s z.thread st z.action) next fs) (sym same) q.1 in
    let on = beyond_after s x.thread s.thread_count st x.action beyond in
    let tails = same_from s (after_action s x.thread st x.action) next es fs on h.2 legal o.1 order (less _ _ l) left in
    ap (λ (z : Entry). z ∷ es) same ∙ ap (λ (zs : List Entry). y ∷ zs) tails

pub only_serial : (s : Script) (es fs : List Entry) → IsOnlySerial s es fs
only_serial s es fs h k l e = same_from s (start s) 0 es fs (λ t far. blank_past 0 s.thread_count t far) h.legal k.legal h.order k.order l e

-- ---- by a clock

given_time : (date : Option ℕ) (times : List ℕ) (n m : ℕ) → IsTimeGiven n date times → IsTimeGiven m date times → n ≡ m
given_time None times n m h k = absurd h
given_time (Some date) times n m h k = h ∙ sym k

clock_time : (date : Option ℕ) (times : List ℕ) (a b : Action) → IsTickBy date times a → IsTickBy date times b
    → (n m : ℕ) → a ≡ actions.Tick n → b ≡ actions.Tick m → n ≡ m
clock_time date times a b h k n m p q = given_time date times n m (subst (IsTickBy date times) p h) (subst (IsTickBy date times) q k)

timed_from : (s : Script) (st : State) (pointer : ℕ) (times : List ℕ) (es fs : List Entry)
    → NoneBeyond s.thread_count st.stands → IsLegalFrom s st es → IsLegalFrom s st fs
    → IsSerialFrom s st pointer es → IsSerialFrom s st pointer fs → IsTimedFrom s st times es → IsTimedFrom s st times fs → length es ≡ length fs → es ≡ fs
timed_from s st pointer times [] [] beyond h k o q c d l = refl
timed_from s st pointer times [] (y ∷ fs) beyond h k o q c d l = absurd (shorter _ l)
timed_from s st pointer times (x ∷ es) [] beyond h k o q c d l = absurd (shorter _ (sym l))
timed_from s st pointer times (x ∷ es) (y ∷ fs) beyond h k o q c d l =
    let chosen = choices_agree s st x.action y.action x y beyond (action_view x.action) (action_view y.action) h.0 k.0 (o.0 ∙ sym q.0) (clock_time (due_date s st) times x.action y.action c.0 d.0) in
    let same = same_entry s st x y h.0 k.0 chosen in
    let legal = subst (λ (z : Entry). IsLegalFrom s (after_action s z.thread st z.action) fs) (sym same) k.2 in
    let next = moved_by pointer (picked s st pointer) in
    let order = subst (λ (z : Entry). IsSerialFrom s (after_action s z.thread st z.action) next fs) (sym same) q.1 in
    let clock = subst (λ (z : Entry). IsTimedFrom s (after_action s z.thread st z.action) (times_left z.action times) fs) (sym same) d.1 in
    let on = beyond_after s x.thread s.thread_count st x.action beyond in
    let tails = timed_from s (after_action s x.thread st x.action) next (times_left x.action times) es fs on h.2 legal o.1 order c.1 clock (less _ _ l) in
    ap (λ (z : Entry). z ∷ es) same ∙ ap (λ (zs : List Entry). y ∷ zs) tails

pub only_timed : (s : Script) (times : List ℕ) (es fs : List Entry) → IsOnlyTimed s times es fs
only_timed s times es fs h k c d l = timed_from s (start s) 0 times es fs (λ t far. blank_past 0 s.thread_count t far) h.legal k.legal h.order k.order c d l
