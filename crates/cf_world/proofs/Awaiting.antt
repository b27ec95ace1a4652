-- What the lead finds of the threads, one by one: whether some sleep, whether all do that are going, and the least date.
use Rattle.std.proofs.Common.{◌≡◌, ℕ, ◌+◌, ◌<◌, ◌∙◌, Bool, true, false, ◌&&◌, ◌||◌, not, cond, List, [], ◌∷◌, ◌++◌, map, Option, Some, None, leb, refl, sym, ap, subst, arith}
use Rattle.std.specs.List.{list_all, list_any, range_with_len}
use Rattle.std.proofs.lemmas.Bool.Decides.{nat_tests}
use Rattle.std.proofs.lemmas.List.Folds.{list_any-append, list_all-append}
use Rattle.std.proofs.lemmas.List.FromFn.{map-range_with_len_more}
use Rattle.rl_base.specs.Dates.{earlier, least_date}
use Rattle.cf_syntax.specs.declared.script.Script.{Script}
use Rattle.cf_model.specs.State.{State, Sleeping, awake, until, flags_at, stand_at, threads_of}
use Rattle.cf_model.specs.Journals.{is_going, is_asleep, sleeps, sleeper_date, date_of, due_date, all_done, tick_or_stall, over, busy, lead_next_in}
use Rattle.cf_loops.proofs.Ranging.{any_map}
use Rattle.cf_next.specs.Stands.{Stand}
use Rattle.cf_next.specs.Standing.{Standing}
use Rattle.cf_model.specs.State as states
use Rattle.cf_scene.specs.declared.flags.Flags.{Flags}
use Rattle.cf_scene.specs.declared.flags.Sleep.{Sleep}
use Rattle.cf_scene.specs.declared.flags.Sleep.TheVariants as sleeps_
use Rattle.cf_world.specs.Grounds.{flags_of, sleeping_of}
use Rattle.cf_world.specs.Begun.{AreFrames, standing_at}
use Rattle.cf_world.proofs.Moving.{stand_here}
use Rattle.cf_world.specs.declared.next.LeadNext.TheVariants as leads
use Rattle.cf_world.specs.Worlds.{lead_of}
use Rattle.cf_world.proofs.Stalling.{all_at}

-- ---- ranges of one more

all_map : {A B : Type 0} (f : B → Bool) (g : A → B) (xs : List A) → list_all f (map g xs) ≡ list_all (λ x. f (g x)) xs
all_map f g [] = refl
all_map f g (x ∷ xs) = ap (λ (b : Bool). f (g x) && b) (all_map f g xs)

or_none : (b : Bool) → (b || false) ≡ b
or_none true = refl
or_none false = refl

and_all : (b : Bool) → (b && true) ≡ b
and_all true = refl
and_all false = refl

any_more : (p : ℕ → Bool) (n : ℕ)
    → list_any p (range_with_len 0 (n + 1)) ≡ (list_any p (range_with_len 0 n) || p n)
any_more p n =
    sym (any_map (λ (b : Bool). b) p (range_with_len 0 (n + 1)))
    ∙ ap (list_any (λ (b : Bool). b)) (map-range_with_len_more p 0 n n (omega arith))
    ∙ list_any-append (λ (b : Bool). b) (map p (range_with_len 0 n)) (p n ∷ [])
    ∙ ap (λ (b : Bool). b || (p n || false)) (any_map (λ (b : Bool). b) p (range_with_len 0 n))
    ∙ ap (λ (b : Bool). list_any p (range_with_len 0 n) || b) (or_none (p n))

all_more : (p : ℕ → Bool) (n : ℕ)
    → list_all p (range_with_len 0 (n + 1)) ≡ (list_all p (range_with_len 0 n) && p n)
all_more p n =
    sym (all_map (λ (b : Bool). b) p (range_with_len 0 (n + 1)))
    ∙ ap (list_all (λ (b : Bool). b)) (map-range_with_len_more p 0 n n (omega arith))
    ∙ list_all-append (λ (b : Bool). b) (map p (range_with_len 0 n)) (p n ∷ [])
    ∙ ap (λ (b : Bool). b && (p n && true)) (all_map (λ (b : Bool). b) p (range_with_len 0 n))
    ∙ ap (λ (b : Bool). list_all p (range_with_len 0 n) && b) (and_all (p n))

earlier_none : (a : Option ℕ) → earlier a None ≡ a
earlier_none None = refl
earlier_none (Some a) = refl

earlier_turns : (a b c : Option ℕ) → earlier a (earlier b c) ≡ earlier (earlier a b) c
earlier_turns None b c = refl
earlier_turns (Some a) None c = refl
earlier_turns (Some a) (Some b) None = sym (earlier_none (earlier (Some a) (Some b))) ∙ refl
earlier_turns (Some a) (Some b) (Some c) = by (leb a b) (leb b c) (leb a c) refl refl refl
  where
    by : (p q r : Bool) → leb a b ≡ p → leb b c ≡ q → leb a c ≡ r
        → earlier (Some a) (earlier (Some b) (Some c)) ≡ earlier (earlier (Some a) (Some b)) (Some c)
    by true true true ab bc ac = rw (ab, bc) (rw (ab, ac) refl)
    by true true false ab bc ac = grind (arith, nat_tests)
    by true false r ab bc ac = rw (ab, bc) refl
    by false true r ab bc ac = rw (ab, bc) (rw ab refl)
    by false false true ab bc ac = grind (arith, nat_tests)
    by false false false ab bc ac = rw (ab, bc) (rw ac refl)

least_more : (ds : List (Option ℕ)) (d : Option ℕ) → least_date (ds ++ d ∷ []) ≡ earlier (least_date ds) d
least_more [] d = earlier_none d
least_more (e ∷ ds) d = ap (earlier e) (least_more ds d) ∙ earlier_turns e (least_date ds) d

-- ---- the threads passed

module _ (st : State) where
  -- what was found of so many threads, none of which is going and awake
  pub record Passed (n : ℕ) (some : Bool) (due : Option ℕ) : Type 0 where
    pub some_is : some ≡ list_any (is_going st) (range_with_len 0 n)
    pub due_is : due ≡ least_date (map (sleeper_date st) (range_with_len 0 n))
    pub all : list_all (λ t. not (is_going st t) || sleeps st t) (range_with_len 0 n) ≡ true

  pub passed_none : Passed 0 false None
  passed_none = record { some_is = refl; due_is = refl; all = refl }

  one_more : (n : ℕ) (some going : Bool) (due date : Option ℕ) → Passed n some due → is_going st n ≡ going
      → sleeper_date st n ≡ date → (not (is_going st n) || sleeps st n) ≡ true
      → Passed (n + 1) (some || going) (earlier due date)
  one_more n some going due date h is at sleeper = record {
    some_is = ap (λ (b : Bool). b || going) h.some_is ∙ ap (λ (b : Bool). list_any (is_going st) (range_with_len 0 n) || b) (sym is) ∙ sym (any_more (is_going st) n);
    due_is = ap (λ (d : Option ℕ). earlier d date) h.due_is ∙ ap (earlier (least_date (map (sleeper_date st) (range_with_len 0 n)))) (sym at)
        ∙ sym (least_more (map (sleeper_date st) (range_with_len 0 n)) (sleeper_date st n)) ∙ ap least_date (sym (map-range_with_len_more (sleeper_date st) 0 n n (omega arith)));
    all = all_more (λ t. not (is_going st t) || sleeps st t) n ∙ ap (λ (b : Bool). b && (not (is_going st n) || sleeps st n)) h.all ∙ sleeper;
  }

  pub passed_idle : (n : ℕ) (some : Bool) (due : Option ℕ) → Passed n some due → is_going st n ≡ false
      → Passed (n + 1) some due
  passed_idle n some due h idle =
      subst (λ (b : Bool). Passed (n + 1) b due) (or_none some)
      (subst (Passed (n + 1) (some || false)) (earlier_none due)
      (one_more n some false due None h idle (ap (λ (b : Bool). cond b (date_of (flags_at n st.parts.flags).sleep) None) idle) (ap (λ (b : Bool). not b || sleeps st n) idle)))

  or_some : (b : Bool) → (b || true) ≡ true
  or_some true = refl
  or_some false = refl

  pub passed_asleep : (n : ℕ) (some : Bool) (due date : Option ℕ) → Passed n some due → is_going st n ≡ true
      → (flags_at n st.parts.flags).sleep ≡ until date → Passed (n + 1) true (earlier due date)
  passed_asleep n some due date h going asleep =
      subst (λ (b : Bool). Passed (n + 1) b (earlier due date)) (or_some some)
      (one_more n some true due date h going (ap (λ (b : Bool). cond b (date_of (flags_at n st.parts.flags).sleep) None) going ∙ ap date_of asleep)
      (ap (λ (b : Bool). not b || sleeps st n) going ∙ ap is_asleep asleep))

-- ---- what the lead does next

lead_case : (ended some all : Bool) (due : Option ℕ) → ended ≡ false → all ≡ true
    → lead_of (cond ended over (cond (some && all) (tick_or_stall due) busy)) ≡ cond some (lead_of (tick_or_stall due)) leads.Busy
lead_case true some all due e h = absurd cc
lead_case false some false due e h = absurd cc
lead_case false true true due e h = refl
lead_case false false true due e h = refl

pub lead_passed : (s : Script) (st : State) (stalled some : Bool) (due : Option ℕ) → Passed st s.thread_count some due
    → (all_done s st || stalled) ≡ false
    → cond some (lead_of (tick_or_stall due)) leads.Busy ≡ lead_of (lead_next_in s st stalled)
lead_passed s st stalled some due h going =
    let all = list_all (λ t. not (is_going st t) || sleeps st t) (threads_of s) in
    ap (λ (b : Bool). cond b (lead_of (tick_or_stall due)) leads.Busy) h.some_is
    ∙ ap (λ (d : Option ℕ). cond (list_any (is_going st) (threads_of s)) (lead_of (tick_or_stall d)) leads.Busy) h.due_is
    ∙ sym (lead_case (all_done s st || stalled) (list_any (is_going st) (threads_of s)) all (due_date s st) going h.all)

awake_all : (s : Script) (st : State) (t : ℕ) → t < s.thread_count → is_going st t ≡ true → sleeps st t ≡ false
    → (b : Bool) → list_all (λ u. not (is_going st u) || sleeps st u) (threads_of s) ≡ b → b ≡ false
awake_all s st t within going up true e =
    let both : (not (is_going st t) || sleeps st t) ≡ true = all_at (λ u. not (is_going st u) || sleeps st u) s.thread_count 0 t e (omega arith) (omega (arith, within)) in
    let none : (not (is_going st t) || sleeps st t) ≡ false = rw (going, up) refl in
    let clash : true ≡ false = sym both ∙ none in absurd cc
awake_all s st t within going up false e = refl

lead_busy_case : (ended some all : Bool) (due : Option ℕ) → ended ≡ false → all ≡ false
    → leads.Busy ≡ lead_of (cond ended over (cond (some && all) (tick_or_stall due) busy))
lead_busy_case true some all due e h = absurd cc
lead_busy_case false some true due e h = absurd cc
lead_busy_case false true false due e h = refl
lead_busy_case false false false due e h = refl

pub lead_awake : (s : Script) (st : State) (stalled : Bool) (t : ℕ) → t < s.thread_count → is_going st t ≡ true
    → sleeps st t ≡ false → (all_done s st || stalled) ≡ false → leads.Busy ≡ lead_of (lead_next_in s st stalled)
lead_awake s st stalled t within going up goes =
    lead_busy_case (all_done s st || stalled) (list_any (is_going st) (threads_of s)) (list_all (λ u. not (is_going st u) || sleeps st u) (threads_of s)) (due_date s st) goes
    (awake_all s st t within going up _ refl)

-- ---- a thread, as its flags and its frames tell it

going_told : (st : State) (t u : ℕ) (f : Flags) (done : Bool) → flags_of f ≡ flags_at u st.parts.flags → u ≡ t
    → done ≡ (stand_at t st.stands).is_done → is_going st t ≡ (f.is_started && not done)
going_told st t u f done told same is =
    ap (λ (n : ℕ). (flags_at n st.parts.flags).is_started && not (stand_at t st.stands).is_done) (sym same)
    ∙ ap (λ (h : states.Flags). h.is_started && not (stand_at t st.stands).is_done) (sym told)
    ∙ ap (λ (b : Bool). f.is_started && not b) (sym is)

pub unstarted : (st : State) (t u : ℕ) (f : Flags) → flags_of f ≡ flags_at u st.parts.flags → u ≡ t
    → f.is_started ≡ false → is_going st t ≡ false
unstarted st t u f told same none =
    ap (λ (b : Bool). b && not (stand_at t st.stands).is_done)
    (ap (λ (n : ℕ). (flags_at n st.parts.flags).is_started) (sym same) ∙ ap (λ (h : states.Flags). h.is_started) (sym told) ∙ none)

module _ (s : Script) (st : State) (fs : List Standing) (so : AreFrames s st fs) (t u : ℕ) (f : Flags) (top : Standing) (done : Bool)
    (lent : top ≡ standing_at fs t) (told : flags_of f ≡ flags_at u st.parts.flags) (same : u ≡ t) (is : done ≡ top.stand.is_done) where
  done_is : done ≡ (stand_at t st.stands).is_done
  done_is = is ∙ ap (λ (h : Standing). h.stand.is_done) lent ∙ ap (λ (x : Stand). x.is_done) (stand_here s st.stands fs t so)

  pub goes : f.is_started ≡ true → done ≡ false → is_going st t ≡ true
  goes started going =
      going_told st t u f done told same done_is ∙ ap (λ (b : Bool). b && not done) started ∙ ap not going

  pub is_over : done ≡ true → is_going st t ≡ false
  is_over e = going_told st t u f done told same done_is ∙ ap (λ (b : Bool). f.is_started && not b) e ∙ none f.is_started
    where
      none : (b : Bool) → (b && false) ≡ false
      none true = refl
      none false = refl

  sleep_is : sleeping_of f.sleep ≡ (flags_at t st.parts.flags).sleep
  sleep_is = ap (λ (h : states.Flags). h.sleep) told ∙ ap (λ (n : ℕ). (flags_at n st.parts.flags).sleep) same

  pub up : f.sleep ≡ sleeps_.Awake → sleeps st t ≡ false
  up e = ap is_asleep (sym sleep_is) ∙ ap (λ (z : Sleep). is_asleep (sleeping_of z)) e

  pub down : (date : Option ℕ) → f.sleep ≡ sleeps_.Until date → (flags_at t st.parts.flags).sleep ≡ until date
  down date asleep = sym sleep_is ∙ ap sleeping_of asleep
