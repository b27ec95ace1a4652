-- What the serial run finds after a journal: a thread that is done has no work left, and once the block of setup is at
-- its end each thread is started.
use Rattle.std.proofs.Common.{◌≡◌, ℕ, zero, suc, ◌+◌, ◌-◌, ◌<◌, ◌≤◌, Bool, true, false, cond, List, [], ◌∷◌, ◌++◌, map, length, Option, Some, None, eqb, leb, refl, sym, ap, ◌∙◌, subst, arith, inl, inr}
use Rattle.std.specs.Prelude.{not, ◌&&◌, ◌||◌, find}
use Rattle.std.specs.List.{list_all, list_any, range_with_len}
use Rattle.std.proofs.lemmas.Bool.{and_parts, and_from, cases_lt}
use Rattle.std.proofs.lemmas.Bool.Decides.{eqb_tells, nat_tests}
use Rattle.rl_base.specs.Dates.{has_come}
use Rattle.cf_syntax.specs.declared.script.Script.{Script}
use Rattle.cf_syntax.specs.Owned.{Owned}
use Rattle.cf_syntax.proofs.BlockLaws.{owned_fits}
use Rattle.cf_next.specs.declared.action.Action.{Action}
use Rattle.cf_next.specs.declared.action.Action.TheVariants as actions
use Rattle.cf_next.specs.Stands.{Stand, opening_stand, stop_stand}
use Rattle.cf_next.specs.Demands.{Demand, ends}
use Rattle.cf_next.specs.Advance.{is_end}
use Rattle.cf_model.specs.declared.entry.Entry.{Entry}
use Rattle.cf_model.specs.State.{State, start, at_or, blank, stand_at, with_stand, threads_of, flags_of, flags_at}
use Rattle.cf_model.specs.Steps.{step_of, frames_at, demanded, stand_after, stopped_at, acted, done_by}
use Rattle.cf_model.specs.Journals.{is_going, sleeps, can_go, all_sleep, is_none, LeadNext, over, busy, ticks, stalls, all_done, due_date, tick_or_stall, lead_next_in, has_stalled, after_action, state_from, After, IsLegal, IsWhole}
use Rattle.cf_model.specs.Serial.{round, picked}
use Rattle.cf_model.specs.Owned.{AllIdle}
use Rattle.cf_model.specs.Leading.{LeadTells}
use Rattle.cf_model.proofs.Numbering.{IsStarted, AllIn, all_range, picked_is, at_past, start_each, start_flags, entry_last, stands_of_threads}
use Rattle.cf_model.proofs.Spending.{stopped_work, opening_work}
use Rattle.cf_model.proofs.Tokens.{at_own, at_other}
use Rattle.cf_model.proofs.Waits.{given_up_along}

-- ---- a thread that is done has no work left

abbrev IsIdle : State → Type 0
IsIdle st = (u : ℕ) → (stand_at u st.stands).is_done ≡ true → (stand_at u st.stands).work ≡ []

stopped_done : (stops : Option ℕ) (u : ℕ) (ss : List Stand)
    → (stand_at u (stopped_at stops ss)).is_done ≡ (stand_at u ss).is_done
stopped_done None u ss = refl
stopped_done (Some w) u ss = elim (eqb_tells u w) [
  | inl e ↦ subst (λ (n : ℕ). (stand_at n (stopped_at (Some w) ss)).is_done ≡ (stand_at n ss).is_done) (sym e.1)
      (ap (λ (s : Stand). s.is_done) (at_own blank w (stop_stand (stand_at w ss)) ss))
  | inr e ↦ ap (λ (s : Stand). s.is_done) (at_other blank u w (stop_stand (stand_at w ss)) ss e.1)
]

new_idle : (s : Script) (t : ℕ) (st : State) (d : Demand) → is_end d ≡ true
    → (stand_after t d (step_of s t st (frames_at t st) d) st).work ≡ []
new_idle s t st ends e = refl
new_idle s t st d e = absurd cc

done_idle : (s : Script) (t : ℕ) (st : State) (d : Demand) → IsIdle st → IsIdle (done_by s t st d)
done_idle s t st d h u done =
    let step = step_of s t st (frames_at t st) d in
    let new = stand_after t d step st in
    let ss = with_stand t new st.stands in
    let before : (stand_at u ss).is_done ≡ true = sym (stopped_done step.stops u ss) ∙ done in
    stopped_work step.stops u ss ∙ elim (eqb_tells u t) [
      | inl e ↦
          let mine : stand_at u ss ≡ new = subst (λ (n : ℕ). stand_at n ss ≡ new) (sym e.1)
          (at_own blank t new st.stands) in
          ap (λ (x : Stand). x.work) mine ∙ new_idle s t st d (sym (ap (λ (x : Stand). x.is_done) mine) ∙ before)
      | inr e ↦
          let other = at_other blank u t new st.stands e.1 in
          ap (λ (x : Stand). x.work) other ∙ h u (sym (ap (λ (x : Stand). x.is_done) other) ∙ before)
    ]

acted_idle : (s : Script) (t : ℕ) (st : State) (d : Option Demand) → IsIdle st → IsIdle (acted s t st d)
acted_idle s t st None h = h
acted_idle s t st (Some d) h = done_idle s t st d h

entry_idle : (s : Script) (t : ℕ) (st : State) (a : Action) → IsIdle st → IsIdle (after_action s t st a)
entry_idle s t st (actions.Tick n) h = h
entry_idle s t st actions.Stall h = h
entry_idle s t st a h = acted_idle s t st (demanded s st t) h

idle_from : (s : Script) (st : State) (es : List Entry) → IsIdle st → IsIdle (state_from s st es)
idle_from s st [] h = h
idle_from s st (e ∷ es) h = idle_from s (after_action s e.thread st e.action) es (entry_idle s e.thread st e.action h)

idle_along : (s : Script) (es : List Entry) → IsIdle (After s es)
idle_along s es = idle_from s (start s) es (λ u done. opening_work (threads_of s) u)

-- ---- tests of all threads

all_at : (p : ℕ → Bool) (a n k : ℕ) → list_all p (range_with_len a n) ≡ true → a ≤ k → k < a + n → p k ≡ true
all_at p a zero k h from to = absurd (omega (arith, from, to))
all_at p a (suc n) k h from to =
    let parts = and_parts (p a) (list_all p (range_with_len (a + 1) n)) h in
    elim (eqb_tells a k) [
      | inl e ↦ subst (λ (m : ℕ). p m ≡ true) e.1 parts.0
      | inr e ↦ all_at p (a + 1) n k parts.1 (above a k from e.1) (omega (arith, to))
    ]
  where
    above : (a k : ℕ) → a ≤ k → (a ≡ k → ⊥) → a + 1 ≤ k
    above a k h n = grind (arith, nat_tests)

all_from : (p : ℕ → Bool) (a n : ℕ) → ((k : ℕ) → a ≤ k → k < a + n → p k ≡ true)
    → list_all p (range_with_len a n) ≡ true
all_from p a zero h = refl
all_from p a (suc n) h =
    and_from (p a) (list_all p (range_with_len (a + 1) n)) (h a (omega arith) (omega arith))
    (all_from p (a + 1) n (λ k from to. h k (omega (arith, from)) (omega (arith, to))))

any_none : (p : ℕ → Bool) (xs : List ℕ) → AllIn (λ x. p x ≡ false) xs → list_any p xs ≡ false
any_none p [] h = refl
any_none p (x ∷ xs) h = rw h.0 (any_none p xs h.1)

none_any : (p : ℕ → Bool) (a n k : ℕ) → list_any p (range_with_len a n) ≡ false → a ≤ k → k < a + n → p k ≡ false
none_any p a zero k h from to = absurd (omega (arith, from, to))
none_any p a (suc n) k h from to =
    let parts = either_false (p a) (list_any p (range_with_len (a + 1) n)) h in
    elim (eqb_tells a k) [
      | inl e ↦ subst (λ (m : ℕ). p m ≡ false) e.1 parts.0
      | inr e ↦ none_any p (a + 1) n k parts.1 (above a k from e.1) (omega (arith, to))
    ]
  where
    above : (a k : ℕ) → a ≤ k → (a ≡ k → ⊥) → a + 1 ≤ k
    above a k h n = grind (arith, nat_tests)

    either_false : (a b : Bool) → (a || b) ≡ false → (a ≡ false) × (b ≡ false)
    either_false true b e = absurd cc
    either_false false b e = (refl, e)

no_both : (b : Bool) → b ≡ true → b ≡ false → ⊥
no_both true e q = absurd cc
no_both false e q = absurd cc

is_false : (b : Bool) → (b ≡ true → ⊥) → b ≡ false
is_false true h = absurd (h refl)
is_false false h = refl

-- what can go is going and does not sleep; what is going is started and not done
going_of : (a b : Bool) → (a && not b) ≡ true → (a ≡ true) × (b ≡ false)
going_of true true e = absurd cc
going_of true false e = (refl, refl)
going_of false b e = absurd cc

not_going : (a b : Bool) → (a && not b) ≡ false → a ≡ true → b ≡ true
not_going true true e q = refl
not_going true false e q = absurd cc
not_going false b e q = absurd cc

sleeps_or : (a b : Bool) → (a && not b) ≡ false → (not a || b) ≡ true
sleeps_or true true e = refl
sleeps_or true false e = absurd cc
sleeps_or false b e = refl

goes_of : (a b : Bool) → (not a || b) ≡ true → (a && not b) ≡ false
goes_of true true e = refl
goes_of true false e = absurd cc
goes_of false b e = refl

module _ (s : Script) (st : State) where
  abbrev started : ℕ → Bool
  started t = (flags_at t st.parts.flags).is_started

  abbrev done : ℕ → Bool
  done t = (stand_at t st.stands).is_done

  done_at : all_done s st ≡ true → (t : ℕ) → t < s.thread_count → done t ≡ true
  done_at h t lt = all_at done 0 s.thread_count t h (omega arith) (omega (arith, lt))

  pub going_not_done : (t : ℕ) → t < s.thread_count → is_going st t ≡ true → all_done s st ≡ true → ⊥
  going_not_done t lt go h = no_both (done t) (done_at h t lt) (going_of (started t) (done t) go).1

  pub can_not_done : (t : ℕ) → t < s.thread_count → can_go st t ≡ true → all_done s st ≡ true → ⊥
  can_not_done t lt go h = going_not_done t lt (going_of (is_going st t) (sleeps st t) go).0 h

  pub sleep_not_done : all_sleep s st ≡ true → all_done s st ≡ true → ⊥
  sleep_not_done asleep h =
      let some = (and_parts (list_any (is_going st) (threads_of s)) _ asleep).0 in
      no_both (list_any (is_going st) (threads_of s)) some
      (any_none (is_going st) (threads_of s)
      (all_range (λ t. is_going st t ≡ false) 0 s.thread_count
      (λ t from to. is_false (is_going st t) (λ go. going_not_done t (omega (arith, to)) go h))))

  pub can_not_sleep : (t : ℕ) → t < s.thread_count → can_go st t ≡ true → all_sleep s st ≡ true → ⊥
  can_not_sleep t lt go asleep =
      let each =
      (and_parts (list_any (is_going st) (threads_of s))
      (list_all (λ t. not (is_going st t) || sleeps st t) (threads_of s)) asleep).1 in
      let here : (not (is_going st t) || sleeps st t) ≡ true = all_at
      (λ t. not (is_going st t) || sleeps st t) 0 s.thread_count t each (omega arith) (omega (arith, lt)) in
      no_both (can_go st t) go (goes_of (is_going st t) (sleeps st t) here)

-- ---- once setup is done each thread is started

record Begun (s : Script) (st : State) : Type 0 where
  least : s.thread_count ≤ length st.parts.flags
  first : 0 < s.thread_count → IsStarted st.parts.flags 0
  all : (stand_at 0 st.stands).is_done ≡ true → (t : ℕ) → t < s.thread_count → IsStarted st.parts.flags t

setup_ends : (s : Script) (st : State) (d : Demand) → s.thread_count ≤ length st.parts.flags → is_end d ≡ true
    → (t : ℕ)
    → t < s.thread_count → IsStarted (done_by s 0 st d).parts.flags t
setup_ends s st ends most e t lt = start_each st.parts.flags t (omega (arith, most, lt))
setup_ends s st d most e t lt = absurd cc

done_all : (s : Script) (u : ℕ) (st : State) (d : Demand) → Begun s st
    → ((t : ℕ) → IsStarted st.parts.flags t → IsStarted (done_by s u st d).parts.flags t)
    → (stand_at 0 (done_by s u st d).stands).is_done ≡ true → (t : ℕ) → t < s.thread_count → IsStarted
    (done_by s u st d).parts.flags t
done_all s zero st d h stay is t lt =
    let step = step_of s 0 st (frames_at 0 st) d in
    let new = stand_after 0 d step st in
    let mine = ap (λ (x : Stand). x.is_done) (at_own blank 0 new st.stands) in
    setup_ends s st d h.least (sym mine ∙ sym (stopped_done step.stops 0 (with_stand 0 new st.stands)) ∙ is) t lt
done_all s (suc u) st d h stay is t lt =
    let step = step_of s (suc u) st (frames_at (suc u) st) d in
    let new = stand_after (suc u) d step st in
    let other = ap (λ (x : Stand). x.is_done) (at_other blank 0 (suc u) new st.stands (λ q. no_zero q)) in
    stay t (h.all (sym other ∙ sym (stopped_done step.stops 0 (with_stand (suc u) new st.stands)) ∙ is) t lt)
  where
    no_zero : 0 ≡ suc u → ⊥
    no_zero q = omega (arith, q)

acted_all : (s : Script) (u : ℕ) (st : State) (d : Option Demand) → Begun s st
    → ((t : ℕ) → IsStarted st.parts.flags t → IsStarted (acted s u st d).parts.flags t)
    → (stand_at 0 (acted s u st d).stands).is_done ≡ true → (t : ℕ) → t < s.thread_count → IsStarted
    (acted s u st d).parts.flags t
acted_all s u st None h stay is t lt = h.all is t lt
acted_all s u st (Some d) h stay is t lt = done_all s u st d h stay is t lt

entry_all : (s : Script) (u : ℕ) (st : State) (a : Action) → Begun s st
    → ((t : ℕ) → IsStarted st.parts.flags t → IsStarted (after_action s u st a).parts.flags t)
    → (stand_at 0 (after_action s u st a).stands).is_done ≡ true → (t : ℕ) → t < s.thread_count
    → IsStarted (after_action s u st a).parts.flags t
entry_all s u st (actions.Tick n) h stay is t lt = stay t (h.all is t lt)
entry_all s u st actions.Stall h stay is t lt = h.all is t lt
entry_all s u st a h stay is t lt = acted_all s u st (demanded s st u) h stay is t lt

entry_begun : (s : Script) (u : ℕ) (st : State) (a : Action) → Begun s st → Begun s (after_action s u st a)
entry_begun s u st a h =
    let last = entry_last s u st a in
    record {
      least = omega (arith, h.least, last.least);
      first = λ some. last.started 0 (h.first some);
      all = entry_all s u st a h last.started;
    }

begun_from : (s : Script) (st : State) (es : List Entry) → Begun s st → Begun s (state_from s st es)
begun_from s st [] h = h
begun_from s st (e ∷ es) h =
    begun_from s (after_action s e.thread st e.action) es (entry_begun s e.thread st e.action h)

opening_going : (ts : List ℕ) (u : ℕ) → (at_or blank u (map opening_stand ts)).is_done ≡ false
opening_going [] zero = refl
opening_going [] (suc u) = refl
opening_going (t ∷ ts) zero = refl
opening_going (t ∷ ts) (suc u) = opening_going ts u

first_started : (n : ℕ) → 0 < n → IsStarted (map (λ t. flags_of (eqb t 0)) (range_with_len 0 n)) 0
first_started zero h = absurd (omega (arith, h))
first_started (suc n) h = refl

begun_along : (s : Script) (es : List Entry) → Begun s (After s es)
begun_along s es = begun_from s (start s) es (record {
  least = omega (arith, start_flags s);
  first = first_started s.thread_count;
  all = λ is t lt. absurd (no_both (stand_at 0 (start s).stands).is_done is (opening_going (threads_of s) 0));
})

-- ---- where no thread can go on, all sleep or all are done

none_going : (s : Script) (st : State) → Begun s st → list_any (is_going st) (threads_of s) ≡ false
    → all_done s st ≡ true
none_going s st h none =
    all_from (done s st) 0 s.thread_count (λ t from to.
    let not_one = λ (u : ℕ) (lt : u < s.thread_count). none_any (is_going st) 0 s.thread_count u none (omega arith)
    (omega (arith, lt)) in
    let some : 0 < s.thread_count = omega (arith, to) in
    let setup : done s st 0 ≡ true = not_going (started s st 0) (done s st 0) (not_one 0 some) (h.first some) in
    not_going (started s st t) (done s st t) (not_one t (omega (arith, to))) (h.all setup t (omega (arith, to))))

none_found : (p : ℕ → Bool) (xs : List ℕ) → find p xs ≡ None → AllIn (λ x. p x ≡ false) xs
none_found p [] e = tt
none_found p (x ∷ xs) e = by (p x) refl e (none_found p xs)
  where
    by : (b : Bool) → p x ≡ b → cond b (Some x) (find p xs) ≡ None → (find p xs ≡ None → AllIn (λ y. p y ≡ false) xs)
        → (p x ≡ false) × AllIn (λ y. p y ≡ false) xs
    by true q e rest = absurd cc
    by false q e rest = (q, rest e)

in_first : (P : ℕ → Type 0) (xs ys : List ℕ) → AllIn P (xs ++ ys) → AllIn P xs
in_first P [] ys h = tt
in_first P (x ∷ xs) ys h = (h.0, in_first P xs ys h.1)

in_second : (P : ℕ → Type 0) (xs ys : List ℕ) → AllIn P (xs ++ ys) → AllIn P ys
in_second P [] ys h = h
in_second P (x ∷ xs) ys h = in_second P xs ys h.1

in_range : (P : ℕ → Type 0) (a n k : ℕ) → AllIn P (range_with_len a n) → a ≤ k → k < a + n → P k
in_range P a zero k h from to = absurd (omega (arith, from, to))
in_range P a (suc n) k h from to = elim (eqb_tells a k) [
  | inl e ↦ subst P e.1 h.0
  | inr e ↦ in_range P (a + 1) n k h.1 (above a k from e.1) (omega (arith, to))
]
  where
    above : (a k : ℕ) → a ≤ k → (a ≡ k → ⊥) → a + 1 ≤ k
    above a k h n = grind (arith, nat_tests)

none_picked : (s : Script) (st : State) (pointer t : ℕ) → picked s st pointer ≡ None → t < s.thread_count
    → can_go st t ≡ false
none_picked s st pointer t e lt =
    let P = λ (u : ℕ). can_go st u ≡ false in
    let later = range_with_len pointer (s.thread_count - pointer) in
    let earlier = range_with_len 0 pointer in
    let each = none_found (can_go st) (round s.thread_count pointer) e in
    elim (cases_lt t pointer) [
      | inl below ↦ in_range P 0 pointer t (in_second P later earlier each) (omega arith) (omega (arith, below))
      | inr above ↦ in_range P pointer (s.thread_count - pointer) t (in_first P later earlier each) above
          (omega (arith, above, lt))
    ]

all_wait : (s : Script) (st : State) (pointer : ℕ) → Begun s st → picked s st pointer ≡ None → all_done s st ≡ false
    → all_sleep s st ≡ true
all_wait s st pointer h e open_done =
    let test = λ (t : ℕ). not (is_going st t) || sleeps st t in
    and_from (list_any (is_going st) (threads_of s)) (list_all test (threads_of s))
    (by (list_any (is_going st) (threads_of s)) refl)
    (all_from test 0 s.thread_count
    (λ t from to. sleeps_or (is_going st t) (sleeps st t) (none_picked s st pointer t e (omega (arith, to)))))
  where
    by : (b : Bool) → list_any (is_going st) (threads_of s) ≡ b → b ≡ true
    by true q = refl
    by false q = absurd (no_both (all_done s st) (none_going s st h q) open_done)

-- ---- what the lead does

abbrev next_by : (done stalled asleep : Bool) → Option ℕ → LeadNext
next_by d stalled asleep due = cond (d || stalled) over (cond asleep (tick_or_stall due) busy)

over_done : (d asleep : Bool) (due : Option ℕ) → next_by d false asleep due ≡ over → d ≡ true
over_done true asleep due e = refl
over_done false true None e = absurd cc
over_done false true (Some n) e = absurd cc
over_done false false due e = absurd cc

busy_is : (d stalled asleep : Bool) (due : Option ℕ) → next_by d stalled asleep due ≡ busy
    → (d ≡ false) × (asleep ≡ false)
busy_is true stalled asleep due e = absurd cc
busy_is false true asleep due e = absurd cc
busy_is false false true None e = absurd cc
busy_is false false true (Some n) e = absurd cc
busy_is false false false due e = (refl, refl)

tick_is : (d stalled asleep : Bool) (due : Option ℕ) (n : ℕ) → next_by d stalled asleep due ≡ ticks n
    → (asleep ≡ true) × (due ≡ Some n)
tick_is true stalled asleep due n e = absurd cc
tick_is false true asleep due n e = absurd cc
tick_is false false true None n e = absurd cc
tick_is false false true (Some m) n e = let same : m ≡ n = cc in (refl, ap (λ (k : ℕ). Some k) same)
tick_is false false false due n e = absurd cc

stall_is : (d stalled asleep : Bool) (due : Option ℕ) → next_by d stalled asleep due ≡ stalls
    → (asleep ≡ true) × (due ≡ None)
stall_is true stalled asleep due e = absurd cc
stall_is false true asleep due e = absurd cc
stall_is false false true None e = (refl, refl)
stall_is false false true (Some m) e = absurd cc
stall_is false false false due e = absurd cc

come_now : (n : ℕ) (due : Option ℕ) → due ≡ Some n → has_come due n ≡ true
come_now n due e = rw e (own n)
  where
    own : (n : ℕ) → leb n n ≡ true
    own n = grind (arith, nat_tests)

all_idle : (ss : List Stand) → ((t : ℕ) → (stand_at t ss).work ≡ []) → AllIdle ss
all_idle [] h = tt
all_idle (s ∷ ss) h = (h 0, all_idle ss (λ t. h (suc t)))

-- where all are done no thread has work left
none_works : (s : Script) (es : List Entry) → all_done s (After s es) ≡ true → (t : ℕ)
    → (stand_at t (After s es).stands).work ≡ []
none_works s es h t = elim (cases_lt t s.thread_count) [
  | inl lt ↦ idle_along s es t (done_at s (After s es) h t lt)
  | inr past ↦ ap (λ (x : Stand). x.work)
      (at_past blank t (After s es).stands (omega (arith, past, stands_of_threads s es)))
]

pub whole_where_done : (s : Script) (es : List Entry) → Owned s → IsLegal s es → all_done s (After s es) ≡ true
    → IsWhole s es
whole_where_done s es own legal h = record {
  legal = legal;
  done = h;
  given_up = given_up_along s es (owned_fits s own) (all_idle (After s es).stands (none_works s es h));
}

pub lead_tells : (s : Script) (es : List Entry) → LeadTells s es
lead_tells s es =
    let st = After s es in
    let due = due_date s st in
    record {
      whole = λ own legal none e.
          whole_where_done s es own legal
          (over_done (all_done s st) (all_sleep s st) due (sym (ap (λ (b : Bool). lead_next_in s st b) none) ∙ e));
      ended = λ is. ap (λ (b : Bool). next_by b (has_stalled es) (all_sleep s st) due) is.done;
      going = λ t lt go is. can_not_done s st t lt go is.done;
      asleep = λ asleep is. sleep_not_done s st asleep is.done;
      goes = λ pointer t most e none.
          let here = picked_is s st pointer t most e in
          rw (
            is_false (all_done s st) (can_not_done s st t here.0 here.1),
            none,
            is_false (all_sleep s st)
                (can_not_sleep s st t here.0 here.1),
          ) refl;
      waits = λ pointer most e is.
          let open_done = busy_is (all_done s st) (has_stalled es) (all_sleep s st) due is in
          no_both (all_sleep s st) (all_wait s st pointer (begun_along s es) e open_done.0) open_done.1;
      tick = λ time e.
          let is = tick_is (all_done s st) (has_stalled es) (all_sleep s st) due time e in
          and_from (all_sleep s st) (has_come due time) is.0 (come_now time due is.1);
      stall = λ e.
          let is = stall_is (all_done s st) (has_stalled es) (all_sleep s st) due e in
          and_from (all_sleep s st) (is_none due) is.0 (ap is_none is.1);
    }
