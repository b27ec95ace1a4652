-- The turn of a thread, and of a run.
use Rattle.std.proofs.Common.{◌≡◌, ℕ, ◌+◌, ◌<◌, ◌≤◌, Bool, true, false, List, length, Option, Some, None, refl, sym, ap, ◌∙◌, subst, arith, inl, inr}
use Rattle.std.specs.Prelude.{IsSomeAnd}
use Rattle.std.proofs.lemmas.Bool.Decides.{eqb_tells, nat_tests}
use Rattle.cf_syntax.specs.declared.script.Script.{Script}
use Rattle.cf_next.specs.declared.action.Action.{Action}
use Rattle.cf_next.specs.Actions.{cut_of}
use Rattle.cf_model.specs.declared.entry.Entry.{Entry}
use Rattle.cf_model.specs.declared.ending.Ending.{Ending}
use Rattle.cf_model.specs.declared.ending.Ending.TheVariants as endings
use Rattle.cf_model.specs.State.{State}
use Rattle.cf_model.specs.Journals.{After, can_go}
use Rattle.cf_model.specs.Serial.{picked, pointer_of}
use Rattle.cf_model.proofs.Limiting.{few_of_legal}
use Rattle.cf_model.proofs.Numbering.{pointer_most}
use Rattle.cf_world.specs.declared.next.Next.{Next}
use Rattle.cf_world.specs.declared.next.Next.TheVariants as nexts
use Rattle.cf_world.specs.Worlds.{WorldView, act_in, acting, IsThread, IsThreadBy, next_by, next_in, next_of, prepared, room_if}
use Rattle.cf_serial.specs.declared.run.Run.{Run}
use Rattle.cf_serial.specs.declared.run.Turn.{Turn}
use Rattle.cf_serial.specs.declared.run.Turn.TheVariants as turns
use Rattle.cf_serial.specs.Numbers.{NumbersView}
use Rattle.cf_serial.specs.Serial.{AreDegrees}
use Rattle.cf_serial.specs.Running.{EndsBy, FirstOf, Goes, IsFirst, IsRun, IsSameJournal, TurnOf, can_act, goes_by, picked_by, picks, prepared_run, turn_by}
use Rattle.cf_serial.proofs.Finding.{picked_after, picked_before, picked_none}
use Rattle.cf_serial.proofs.Nexts.{NextTells, ends_at_limit, ends_full, next_tells}

-- ---- room changes nothing else

next_same : (o : Option Script) (w : WorldView) (room : Option ℕ) (t : ℕ)
    → next_by o (record w { room = room }) t ≡ next_by o w t
next_same None w room t = refl
next_same (Some s) w room t = refl

abbrev pub with_room : ℕ → Run → Run
with_room t r = record r { world = record r.world { room = Some t } }

prepared_some : (r : Run) (t : ℕ) (a : Action) → acting r.world t ≡ Some a → prepared_run t r ≡ with_room t r
prepared_some r t a e = ap (λ (o : Option Action). record r { world = room_if o t r.world }) e

prepared_none : (r : Run) (t : ℕ) → acting r.world t ≡ None → prepared_run t r ≡ r
prepared_none r t e = ap (λ (o : Option Action). record r { world = room_if o t r.world }) e

-- the invariant says nothing of the room
room_keeps : (r : Run) (t : ℕ) → IsRun r → IsRun (with_room t r)
room_keeps r t run = record {
  script = run.script;
  begun = run.begun;
  owned = run.owned;
  most = run.most;
  within = run.within;
  serial = run.serial;
  threads_are = run.threads_are;
  few_threads = run.few_threads;
  stalled_is = run.stalled_is;
  asleep = run.asleep;
  pointer_is = run.pointer_is;
  numbers_are = run.numbers_are;
  few_modes = run.few_modes;
}

pub prepared_keeps : (r : Run) (t : ℕ) → IsRun r → IsRun (prepared_run t r)
prepared_keeps r t run = by (acting r.world t) refl
  where
    by : (o : Option Action) → acting r.world t ≡ o → IsRun (prepared_run t r)
    by None e = subst IsRun (sym (prepared_none r t e)) run
    by (Some a) e = subst IsRun (sym (prepared_some r t a e)) (room_keeps r t run)

pub prepared_same : (r : Run) (t : ℕ) → IsSameJournal r (prepared_run t r)
prepared_same r t = by (acting r.world t) refl
  where
    by : (o : Option Action) → acting r.world t ≡ o → IsSameJournal r (prepared_run t r)
    by None e = subst (IsSameJournal r) (sym (prepared_none r t e)) (record { script = refl; limit = refl; journal = refl })
    by (Some a) e = subst (IsSameJournal r) (sym (prepared_some r t a e)) (record { script = refl; limit = refl; journal = refl })

pub prepared_picks : (r : Run) (t : ℕ) → picks (prepared_run t r) ≡ picks r
prepared_picks r t = by (acting r.world t) refl
  where
    by : (o : Option Action) → acting r.world t ≡ o → picks (prepared_run t r) ≡ picks r
    by None e = ap picks (prepared_none r t e)
    by (Some a) e = ap picks (prepared_some r t a e)

prepared_acts : (r : Run) (t : ℕ) → can_act (prepared_run t r) t ≡ can_act r t
prepared_acts r t = by (acting r.world t) refl
  where
    by : (o : Option Action) → acting r.world t ≡ o → can_act (prepared_run t r) t ≡ can_act r t
    by None e = ap (λ (q : Run). can_act q t) (prepared_none r t e)
    by (Some a) e = ap (λ (q : Run). can_act q t) (prepared_some r t a e)

-- ---- the turn of a thread

module _ (r : Run) (run : IsRun r) where
  abbrev s : Script
  s = run.script

  abbrev es : List Entry
  es = r.world.journal

  abbrev st : State
  st = After s es

  can_is : (u : ℕ) → can_act r u ≡ can_go st u
  can_is u = ap (λ (o : Option Script). goes_by o es u) run.begun

  picks_is : picks r ≡ picked s st (pointer_of s es)
  picks_is = ap (λ (o : Option Script). picked_by o es r.pointer) run.begun ∙ ap (λ (p : ℕ). picked s st p) run.pointer_is

  pub is_thread : (t : ℕ) → t < r.threads → IsThread r.world t
  is_thread t lt = subst (λ (o : Option Script). IsThreadBy o t) (sym run.begun) (omega (arith, lt, run.threads_are))

  module _ (t : ℕ) (lt : t < r.threads) where
    within : t < s.thread_count
    within = omega (arith, lt, run.threads_are)

    next_is : next_in r.world t ≡ next_of s r.world.limit es t
    next_is = ap (λ (o : Option Script). next_by o r.world t) run.begun

    tells : (n : Next) → n ≡ next_in r.world t → NextTells s r.world.limit es t n
    tells n e = subst (NextTells s r.world.limit es t) (sym (e ∙ next_is)) (next_tells s r.world.limit es t within)

    acts : (n : Next) → n ≡ next_in r.world t → acting r.world t ≡ act_in n
    acts n e = ap act_in (sym e)

    waits : (n : Next) → n ≡ next_in r.world t → act_in n ≡ None → can_go st t ≡ false
        → TurnOf (prepared_run t r) t None
    waits n e none can = prepared_acts r t ∙ can_is t ∙ can

    ends : (n : Next) (ending : Ending) → n ≡ next_in r.world t → act_in n ≡ None → can_go st t ≡ true
        → (picks r ≡ Some t → EndsBy (Some s) r.world.limit es ending) → TurnOf (prepared_run t r) t (Some (turns.Over ending))
    ends n ending e none can over =
        subst (λ (q : Run). TurnOf q t (Some (turns.Over ending))) (sym (prepared_none r t (acts n e ∙ none)))
        ((can_is t ∙ can, λ pick. subst (λ (o : Option Script). EndsBy o r.world.limit es ending) (sym run.begun) (over pick)))

    pub turn_fits : (n : Next) → n ≡ next_in r.world t → TurnOf (prepared_run t r) t (turn_by t n)
    turn_fits (nexts.Act a) e =
        let here = acts (nexts.Act a) e in
        let h = tells (nexts.Act a) e in
        subst (λ (q : Run). TurnOf q t (Some (turns.Acts t (cut_of a)))) (sym (prepared_some r t a here))
        ((
          can_is t ∙ h.can,
          λ pick. record {
            picked_is = pick;
            room = refl;
            acts = subst (λ (o : Option Action). IsSomeAnd o (λ b. cut_of b ≡ cut_of a)) (sym (ap act_in (next_same r.world.script r.world (Some t) t) ∙ here)) refl;
          },
        ))
    turn_fits nexts.Asleep e = waits nexts.Asleep e refl (tells nexts.Asleep e)
    turn_fits nexts.Waiting e = waits nexts.Waiting e refl (tells nexts.Waiting e)
    turn_fits nexts.Done e = waits nexts.Done e refl (tells nexts.Done e)
    turn_fits nexts.Limit e =
        let h = tells nexts.Limit e in
        ends nexts.Limit endings.Limit e refl h.0 (λ pick. ends_at_limit s r.world.limit es t within run.within run.asleep h.0 h.1)
    turn_fits nexts.Full e =
        let h = tells nexts.Full e in
        ends nexts.Full endings.Full e refl h.can (λ pick. ends_full s r.world.limit es t within run.within run.asleep (few_of_legal s es run.serial.legal).objects (sym picks_is ∙ pick) h)

    none_if : (n : Next) → turn_by t n ≡ None → act_in n ≡ None
    none_if (nexts.Act a) e = absurd cc
    none_if nexts.Asleep e = refl
    none_if nexts.Waiting e = refl
    none_if nexts.Done e = refl
    none_if nexts.Limit e = absurd cc
    none_if nexts.Full e = absurd cc

    pub none_same : (n : Next) → n ≡ next_in r.world t → turn_by t n ≡ None → prepared_run t r ≡ r
    none_same n e none = prepared_none r t (acts n e ∙ none_if n none)

  -- ---- which thread is picked

  pub pointer_within : r.pointer ≤ r.threads
  pointer_within = omega (arith, run.pointer_is, pointer_most s es, run.threads_are)

  none_can : (u : ℕ) → can_act r u ≡ false → can_go st u ≡ false
  none_can u h = sym (can_is u) ∙ h

  picks_by : picks r ≡ picked s st r.pointer
  picks_by = ap (λ (o : Option Script). picked_by o es r.pointer) run.begun

  pub picks_after : (t : ℕ) → r.pointer ≤ t → t < r.threads → ((u : ℕ) → r.pointer ≤ u → u < t → can_act r u ≡ false)
      → can_act r t ≡ true → picks r ≡ Some t
  picks_after t from to none can =
      picks_by ∙ picked_after (can_go st) s.thread_count r.pointer t from (omega (arith, to, run.threads_are))
      (λ u low high. none_can u (none u low high)) (sym (can_is t) ∙ can)

  pub picks_before : (t : ℕ) → t < r.pointer → ((u : ℕ) → r.pointer ≤ u → u < r.threads → can_act r u ≡ false)
      → ((u : ℕ) → u < t → can_act r u ≡ false) → can_act r t ≡ true → picks r ≡ Some t
  picks_before t to late none can =
      picks_by ∙ picked_before (can_go st) s.thread_count r.pointer t (omega (arith, pointer_within, run.threads_are)) to
      (λ u low high. none_can u (late u low (omega (arith, high, run.threads_are)))) (λ u high. none_can u (none u high)) (sym (can_is t) ∙ can)

  pub picks_none : ((u : ℕ) → r.pointer ≤ u → u < r.threads → can_act r u ≡ false)
      → ((u : ℕ) → u < r.pointer → can_act r u ≡ false) → picks r ≡ None
  picks_none late none =
      picks_by ∙ picked_none (can_go st) s.thread_count r.pointer (omega (arith, pointer_within, run.threads_are))
      (λ u low high. none_can u (late u low (omega (arith, high, run.threads_are)))) (λ u high. none_can u (none u high))

-- the turn of a thread that is picked
pub turn_goes : (r q : Run) (t : ℕ) (turn : Turn) → q ≡ prepared_run t r → TurnOf q t (Some turn) → picks r ≡ Some t
    → Goes q turn
turn_goes r q t turn is h pick = h.1 (ap picks is ∙ prepared_picks r t ∙ pick)

pub turn_can : (r q : Run) (t : ℕ) (turn : Turn) → q ≡ prepared_run t r → TurnOf q t (Some turn) → can_act r t ≡ true
turn_can r q t turn is h = sym (ap (λ (x : Run). can_act x t) is ∙ prepared_acts r t) ∙ h.0

-- the invariant says nothing of the room for numbers
pub numbers_keep : (r : Run) (n : NumbersView) → n.items ≡ r.numbers.items → IsRun r → IsRun (record r { numbers = n })
numbers_keep r n same run = record {
  script = run.script;
  begun = run.begun;
  owned = run.owned;
  most = run.most;
  within = run.within;
  serial = run.serial;
  threads_are = run.threads_are;
  few_threads = run.few_threads;
  stalled_is = run.stalled_is;
  asleep = run.asleep;
  pointer_is = run.pointer_is;
  numbers_are = subst (AreDegrees (length (After run.script r.world.journal).parts.objects) (After run.script r.world.journal).edges) (sym same) run.numbers_are;
  few_modes = run.few_modes;
}

-- one thread more of a range that can't go on
pub range_more : (p : ℕ → Bool) (low i : ℕ) → ((u : ℕ) → low ≤ u → u < i → p u ≡ false) → p i ≡ false
    → (u : ℕ) → low ≤ u → u < i + 1 → p u ≡ false
range_more p low i h here u least lt = elim (eqb_tells u i) [
  | inl e ↦ subst (λ (m : ℕ). p m ≡ false) (sym e.1) here
  | inr e ↦ h u least (below u i lt e.1)
]
  where
    below : (u i : ℕ) → u < i + 1 → (u ≡ i → ⊥) → u < i
    below u i lt e = grind (arith, nat_tests)

-- the first one from the pointer on that can go on is picked
pub first_after : (r q : Run) (turn : Turn) → IsRun r → IsFirst r q r.pointer r.threads turn → Goes q turn
first_after r q turn run h =
    turn_goes r q h.thread turn h.prepared_is h.turn_is
    (picks_after r run h.thread h.least h.most h.earlier (turn_can r q h.thread turn h.prepared_is h.turn_is))

-- and so is the first one before it, if none from the pointer on can
pub first_before : (r q : Run) (turn : Turn) → IsRun r
    → ((u : ℕ) → r.pointer ≤ u → u < r.threads → can_act r u ≡ false) → IsFirst r q 0 r.pointer turn → Goes q turn
first_before r q turn run late h =
    turn_goes r q h.thread turn h.prepared_is h.turn_is
    (picks_before r run h.thread h.most late (λ u lt. h.earlier u (omega arith) lt)
    (turn_can r q h.thread turn h.prepared_is h.turn_is))

pub first_keeps : (r q : Run) (low high : ℕ) (turn : Turn) → IsRun r → IsFirst r q low high turn → IsRun q
first_keeps r q low high turn run h = subst IsRun (sym h.prepared_is) (prepared_keeps r h.thread run)

pub first_same : (r q : Run) (low high : ℕ) (turn : Turn) → IsFirst r q low high turn → IsSameJournal r q
first_same r q low high turn h = subst (IsSameJournal r) (sym h.prepared_is) (prepared_same r h.thread)

-- none is picked if none can go on
pub early_none : (r q : Run) → IsRun r → ((u : ℕ) → r.pointer ≤ u → u < r.threads → can_act r u ≡ false)
    → FirstOf r q 0 r.pointer None → picks q ≡ None
early_none r q run late h = ap picks h.0 ∙ picks_none r run late (λ u lt. h.1 u (omega arith) lt)

-- the turn of a thread, by what the world told
pub turn_is : (r : Run) (t : ℕ) (n : Next) (w : WorldView) (turn : Option Turn) → IsRun r → t < r.threads
    → n ≡ next_in r.world t → w ≡ prepared t r.world → turn ≡ turn_by t n → TurnOf (record r { world = w }) t turn
turn_is r t n w turn run lt e is by =
    subst (λ (o : Option Turn). TurnOf (record r { world = w }) t o) (sym by)
    (subst (λ (v : WorldView). TurnOf (record r { world = v }) t (turn_by t n)) (sym is) (turn_fits r run t lt n e))
