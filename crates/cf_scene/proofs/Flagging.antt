-- The flags of threads after one has others, and what a sleep leaves.
use Rattle.std.proofs.Common.{◌≡◌, ℕ, zero, suc, ◌<◌, ◌∙◌, Bool, true, false, ◌||◌, List, [], ◌∷◌, length, get_or, Option, refl, sym, ap, subst, arith}
use Rattle.std.specs.Prelude.{slice_set}
use Rattle.cf_ids.specs.declared.answer.Answer.{Answer}
use Rattle.cf_ids.specs.declared.answer.Answer.TheVariants as answers
use Rattle.rl_base.specs.Dates.{earlier, has_come}
use Rattle.cf_next.specs.Stands.{Turn}
use Rattle.cf_model.specs.State as states
use Rattle.cf_model.specs.State.{State, Sleeping, awake, until, flags_at, with_flags}
use Rattle.cf_model.specs.Things.{mode_date}
use Rattle.cf_model.specs.Steps.{Step, idle, sleeping, sleep_step}
use Rattle.cf_scene.specs.declared.flags.Flags.{Flags}
use Rattle.cf_scene.specs.Scenes.{all_flags, flags_of}
use Rattle.cf_scene.specs.Sleeping.{HasSlept}

-- the flags of a thread that are read are those of the state
read_in : (fs : List Flags) (t : ℕ) (f : Flags) → t < length fs → f ≡ get_or fs t f
    → flags_of f ≡ flags_at t (all_flags fs)
read_in [] t f within is = absurd (omega (arith, within))
read_in (x ∷ fs) zero f within is = ap flags_of is
read_in (x ∷ fs) (suc t) f within is = read_in fs t f (omega (arith, within)) is

-- the flags of a thread that are set are those of the state with them
set_in : (fs : List Flags) (t : ℕ) (f : Flags) → t < length fs
    → all_flags (slice_set fs t f) ≡ with_flags t (flags_of f) (all_flags fs)
set_in [] t f within = absurd (omega (arith, within))
set_in (x ∷ fs) zero f within = refl
set_in (x ∷ fs) (suc t) f within = ap (λ (gs : List states.Flags). flags_of x ∷ gs) (set_in fs t f (omega (arith, within)))

-- the same by a place that is the number of the thread
module _ (fs : List Flags) (t place : ℕ) (f : Flags) (is_place : place ≡ t) (within : t < length fs) (is : f ≡ get_or fs place f) where
  pub flags_read : flags_of f ≡ flags_at t (all_flags fs)
  flags_read = read_in fs t f within (subst (λ (n : ℕ). f ≡ get_or fs n f) is_place is)

  pub flags_set : (g : Flags) (h : states.Flags → states.Flags) → flags_of g ≡ h (flags_of f)
      → all_flags (slice_set fs place g) ≡ with_flags t (h (flags_at t (all_flags fs))) (all_flags fs)
  flags_set g h new =
      ap (λ (n : ℕ). all_flags (slice_set fs n g)) is_place ∙ set_in fs t g within
      ∙ ap (λ (k : states.Flags). with_flags t k (all_flags fs)) (new ∙ ap h flags_read)

-- ---- a sleep

-- the flags of a thread that sleeps so, and has no wake kept
abbrev pub slept : Sleeping → states.Flags → states.Flags
slept sleep f = record { is_started = f.is_started; sleep = sleep; is_woken = false }

module _ (st : State) (t : ℕ) (r : Turn) (deadline date : Option ℕ) (time : ℕ) (fs after : List Flags) (same : st.parts.flags ≡ all_flags fs) (now : st.parts.time ≡ time) (ends : r.deadline ≡ deadline) (dated : mode_date st t r.mode ≡ date) where
  -- what the step of a sleep leaves
  by_step : (step : Step) (answer : Answer) → sleep_step st t r ≡ step → answer ≡ step.answer
      → all_flags after ≡ step.parts.flags
      → HasSlept st t r answer after
  by_step step answer is a f = record {
    answer_is = a ∙ ap (λ (x : Step). x.answer) (sym is);
    flags_are = f ∙ ap (λ (x : Step). x.parts.flags) (sym is);
  }

  -- whether a wake is kept
  woken_is : (b : Bool) → (flags_at t (all_flags fs)).is_woken ≡ b → (flags_at t st.parts.flags).is_woken ≡ b
  woken_is b e = ap (λ (gs : List states.Flags). (flags_at t gs).is_woken) same ∙ e

  -- whether a date has come
  come_is : (b : Bool) → (has_come deadline time || has_come date time) ≡ b
      → (has_come r.deadline st.parts.time || has_come (mode_date st t r.mode) st.parts.time) ≡ b
  come_is b e =
      ap (λ (n : ℕ). has_come r.deadline n || has_come (mode_date st t r.mode) n) now
      ∙ ap (λ (d : Option ℕ). has_come d time || has_come (mode_date st t r.mode) time) ends
      ∙ ap (λ (d : Option ℕ). has_come deadline time || has_come d time) dated
      ∙ e

  -- the flags of the state with those of a thread that sleeps so
  set_is : (sleep : Sleeping)
      → all_flags after ≡ with_flags t (slept sleep (flags_at t (all_flags fs))) (all_flags fs)
      → all_flags after ≡ with_flags t (slept sleep (flags_at t st.parts.flags)) st.parts.flags
  set_is sleep e = e ∙ ap (λ (gs : List states.Flags). with_flags t (slept sleep (flags_at t gs)) gs) (sym same)

  -- a wake was kept
  pub was_woken : (flags_at t (all_flags fs)).is_woken ≡ true
      → all_flags after ≡ with_flags t (slept awake (flags_at t (all_flags fs))) (all_flags fs)
      → HasSlept st t r answers.Woken after
  was_woken kept set = by_step (sleeping st t answers.Woken awake) answers.Woken (rw (woken_is true kept) refl) refl (set_is awake set)

  -- a date has come
  pub is_due : (flags_at t (all_flags fs)).is_woken ≡ false → (has_come deadline time || has_come date time) ≡ true
      → all_flags after ≡ all_flags fs
      → HasSlept st t r answers.Due after
  is_due kept come set =
      by_step (idle st answers.Due) answers.Due (rw (woken_is false kept, come_is true come) refl) refl (set ∙ sym same)

  -- the earlier date of the state
  earlier_is : (u : Option ℕ) → u ≡ earlier deadline date → u ≡ earlier r.deadline (mode_date st t r.mode)
  earlier_is u e =
      e ∙ ap (λ (d : Option ℕ). earlier d date) (sym ends) ∙ ap (λ (d : Option ℕ). earlier r.deadline d) (sym dated)

  -- else it sleeps
  pub falls_asleep : (u : Option ℕ) → u ≡ earlier deadline date → (flags_at t (all_flags fs)).is_woken ≡ false
      → (has_come deadline time || has_come date time) ≡ false
      → all_flags after ≡ with_flags t (slept (until u) (flags_at t (all_flags fs))) (all_flags fs)
      → HasSlept st t r (answers.Asleep u) after
  falls_asleep u e kept come set =
      let v = earlier r.deadline (mode_date st t r.mode) in
      by_step (sleeping st t (answers.Asleep v) (until v)) (answers.Asleep u) (rw (woken_is false kept, come_is false come) refl) (ap answers.Asleep (earlier_is u e))
      (set_is (until u) set ∙ ap (λ (w : Option ℕ). with_flags t (slept (until w) (flags_at t st.parts.flags)) st.parts.flags) (earlier_is u e))

-- ---- whether one of two dates has come

pub first_come : (a b : Bool) → a ≡ true → (a || b) ≡ true
first_come true b e = refl
first_come false b e = absurd cc

pub second_come : (a b : Bool) → b ≡ true → (a || b) ≡ true
second_come true b e = refl
second_come false b e = e

pub none_come : (a b : Bool) → a ≡ false → b ≡ false → (a || b) ≡ false
none_come false b e f = f
none_come true b e f = absurd cc
