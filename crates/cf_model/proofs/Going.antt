-- A thread that can go on can go on after entries of others: they start and wake it, and never put it to sleep or end
-- it.
use Rattle.std.proofs.Common.{◌&&◌, ◌∙◌, ◌∷◌, ◌≡◌, Bool, List, None, Option, Some, [], ap, cond, eqb, false, inl, inr, map, not, refl, subst, suc, sym, true, zero, ℕ}
use Rattle.std.proofs.lemmas.Bool.{and_from, and_parts}
use Rattle.std.proofs.lemmas.Bool.Decides.{eqb_tells}
use Rattle.cf_ids.specs.declared.answer.Answer.{Answer}
use Rattle.cf_ids.specs.declared.answer.Answer.TheVariants as answers
use Rattle.rl_turn.specs.declared.phases.Phase.{Phase}
use Rattle.cf_syntax.specs.BlockLines.{BlockLine, begins, claims, packs, says}
use Rattle.cf_syntax.specs.Mentions.{first_of, ownership_of, used_at}
use Rattle.cf_syntax.specs.declared.mention.Ownership.{Ownership}
use Rattle.cf_syntax.specs.declared.mention.Ownership.TheVariants.{Binds, Keeps, Releases, Retains}
use Rattle.cf_syntax.specs.declared.script.Script.{Script}
use Rattle.cf_syntax.specs.declared.statement.Statement.{Statement}
use Rattle.cf_syntax.specs.declared.statement.Statement.TheVariants as forms
use Rattle.cf_contents.specs.Deeds.{Change, deed_at}
use Rattle.cf_contents.specs.Items.{Item, kind_of, source_item}
use Rattle.cf_graph.specs.Holders.{Holder, parcel, variable}
use Rattle.cf_next.specs.Advance.{top_kind}
use Rattle.cf_next.specs.Demands.{Demand, calls, closes, does, drops, ends, enters, owes, returns, spends}
use Rattle.cf_next.specs.Next.{object_at, used_objects}
use Rattle.cf_next.specs.Stands.{Binding, Frame, Kind, Stand, has_run, item_of, of_block, of_handler, of_run, stop_stand}
use Rattle.cf_next.specs.declared.action.Action.{Action}
use Rattle.cf_next.specs.declared.action.Action.TheVariants as actions
use Rattle.cf_model.proofs.Phases.{phase_case}
use Rattle.cf_model.proofs.Tokens.{at_other, at_own}
use Rattle.cf_model.specs.Deals.{Deal, change_deal, change_unless_skipped, deal_of, holds_at, invalidate_deal, is_elsewhere, place_in, signal_deal, stays_in_one, thing_deal, thread_in, wake_flags, wake_parts, with_filter, with_thing, with_used, woken_by}
use Rattle.cf_model.specs.Journals.{after_action, can_go, is_asleep, is_going, sleeps, tick_flags, wake_at}
use Rattle.cf_model.specs.State.{Flags, Parts, Sleeping, State, awake, blank, first_held, flags_at, flags_of, is_common, stand_at, until, with_flags, with_stand}
use Rattle.cf_model.specs.Steps.{Step, acted, bindings_of, claim_step, close_step, demanded, depth_of, end_step, fire, fire_if, frames_at, line_step, pack_step, packed_holder, phase_step, release_step, retain_step, sleeping, spend_if, stand_after, start_all, statement_step, step_of, stopped_at}
use Rattle.cf_model.specs.Things.{Thing, thing_at}

pub record FlagGoes (f g : Flags) : Type 0 where
  pub started : f.is_started ≡ true → g.is_started ≡ true
  pub stays_awake : f.sleep ≡ awake → g.sleep ≡ awake

same_flag : (f : Flags) → FlagGoes f f
same_flag f = record { started = λ e. e; stays_awake = λ e. e }

abbrev pub FlagsGo : ℕ → List Flags → List Flags → Type 0
FlagsGo w fs gs = FlagGoes (flags_at w fs) (flags_at w gs)

wake_flag : (f : Flags) (s : Sleeping) → f.sleep ≡ s → FlagGoes f (woken_by f s)
wake_flag f awake e = record { started = λ q. q; stays_awake = λ q. q }
wake_flag f (until d) e = record { started = λ q. q; stays_awake = λ q. refl }

-- another thread's flags are changed, or this one is woken
wake_goes : (w u : ℕ) (p : Parts) → FlagsGo w p.flags (wake_parts p u).flags
wake_goes w u p = elim (eqb_tells w u) [
  | inl e ↦ subst (λ (n : ℕ). FlagGoes (flags_at n p.flags) (flags_at n (wake_parts p u).flags)) (sym e.1)
      (subst (FlagGoes (flags_at u p.flags)) (sym (at_own (flags_of false) u (wake_flags (flags_at u p.flags)) p.flags)) (wake_flag (flags_at u p.flags) (flags_at u p.flags).sleep refl))
  | inr e ↦ subst (FlagGoes (flags_at w p.flags)) (sym (at_other (flags_of false) w u (wake_flags (flags_at u p.flags)) p.flags e.1)) (same_flag (flags_at w p.flags))
]

other_goes : (w u : ℕ) (g : Flags) (fs : List Flags) → (w ≡ u → ⊥) → FlagsGo w fs (with_flags u g fs)
other_goes w u g fs apart = subst (FlagGoes (flags_at w fs)) (sym (at_other (flags_of false) w u g fs apart)) (same_flag (flags_at w fs))

all_go : (f : Flags → Flags) → ((x : Flags) → FlagGoes x (f x)) → (w : ℕ) (fs : List Flags) → FlagsGo w fs (map f fs)
all_go f h w [] = same_flag (flags_at w [])
all_go f h zero (x ∷ fs) = h x
all_go f h (suc w) (x ∷ fs) = all_go f h w fs

tick_goes : (n : ℕ) (f : Flags) → FlagGoes f (tick_flags n f)
tick_goes n f = record { started = λ e. e; stays_awake = λ e. ap (wake_at n) e }

-- ---- deals

module _ (w : ℕ) (st : State) where
  abbrev Go : Deal → Type 0
  Go deal = FlagsGo w st.parts.flags deal.parts.flags

  same_go : FlagsGo w st.parts.flags st.parts.flags
  same_go = same_flag (flags_at w st.parts.flags)

  either_go : (b : Bool) (x y : Deal) → Go x → Go y → Go (cond b x y)
  either_go true x y h k = h
  either_go false x y h k = k

  used_go : (used : Option ℕ) (deal : ℕ → Deal) → ((o : ℕ) → Go (deal o)) → Go (with_used st.parts used deal)
  used_go None deal h = same_go
  used_go (Some o) deal h = h o

  thing_go : (used : Option ℕ) (deal : ℕ → Thing → Deal) → ((i : ℕ) (x : Thing) → Go (deal i x))
      → Go (with_thing st.parts used deal)
  thing_go None deal h = same_go
  thing_go (Some i) deal h = by (thing_at st.parts i)
    where
      by : (x : Option Thing) → Go (thing_deal st.parts i deal x)
      by None = same_go
      by (Some x) = h i x

  filter_go : (v object : Option ℕ) (deal : Option ℕ → Deal) → ((f : Option ℕ) → Go (deal f))
      → Go (with_filter st.parts v object deal)
  filter_go None object deal h = h None
  filter_go (Some v) object deal h = used_go object (λ o. deal (Some o)) (λ o. h (Some o))

  signal_go : (i : ℕ) (valid : Bool) (item : Item) → Go (signal_deal st.parts i valid item)
  signal_go i true (source_item order on) = same_go
  signal_go i false (source_item order on) = same_go
  signal_go i valid _ = same_go

  change_go : (answer : Answer) (b : Option ℕ) (change : Change) → Go (change_deal st.parts answer b change)
  change_go answer None change = same_go
  change_go answer (Some b) change = same_go

  invalidate_go : (s : Script) (i : ℕ) (x : Thing) → Go (invalidate_deal s st i x)
  invalidate_go s i x = either_go x.valid _ _ same_go same_go

  spend_go : (s : Script) (i : ℕ) → Go (spend_if s st i (thing_at st.parts i))
  spend_go s i = by (thing_at st.parts i)
    where
      by : (x : Option Thing) → Go (spend_if s st i x)
      by None = same_go
      by (Some x) = either_go x.valid _ _ (invalidate_go s i x) same_go

  deal_goes : (s : Script) (t : ℕ) (x : Statement) (used : List (Option ℕ)) → Go (deal_of s t st x used)
  deal_goes s t (forms.Add v u m) used = thing_go (first_of used) _ (λ i x. used_go (thread_in t u) _ (λ a.
      either_go (not x.valid) _ _ same_go
      (either_go (stays_in_one (kind_of x.item) && is_elsewhere s a i st.edges) _ _ same_go
      (either_go (holds_at a i st.edges (place_in m)) _ _ same_go same_go))))
  deal_goes s t (forms.Drop v u m) used = thing_go (first_of used) _ (λ i x. used_go (thread_in t u) _ (λ a. either_go (holds_at a i st.edges (place_in m)) _ _ same_go same_go))
  deal_goes s t (forms.Common u m) used = used_go (thread_in t u) _ (λ a. either_go (is_common a st.parts.commons m) _ _ same_go same_go)
  deal_goes s t (forms.Signal v) used = thing_go (first_of used) _ (λ i x. signal_go i x.valid x.item)
  deal_goes s t (forms.Invalidate v) used = thing_go (first_of used) _ (invalidate_go s)
  deal_goes s t (forms.Wake u) used = used_go (thread_in t u) _ (λ a. wake_goes w a st.parts)
  deal_goes s t (forms.Stop u) used = used_go (thread_in t u) _ (λ a. either_go (has_run (stand_at a st.stands).frames) _ _ (wake_goes w a st.parts) same_go)
  deal_goes s t (forms.Run m limit once) used = same_go
  deal_goes s t (forms.Observe v h name x) used = used_go (first_of used) _ (λ o. filter_go x (used_at used 1) _ (λ f. same_go))
  deal_goes s t (forms.Forget v name x) used = used_go (first_of used) _ (λ o. filter_go x (used_at used 1) _ (λ f. same_go))
  deal_goes s t (forms.Post name info) used = same_go
  deal_goes s t x used =
      let deed = deed_at s.classes st.parts.objects x used in
      change_go deed.answer (first_of used) (change_unless_skipped deed.answer deed.change)

  -- ---- steps

  abbrev StepGo : Step → Type 0
  StepGo step = FlagsGo w st.parts.flags step.parts.flags

  retain_go : (h : Holder) (object : Option ℕ) → StepGo (retain_step h st object)
  retain_go h None = same_go
  retain_go h (Some o) = same_go

  release_go : (t : ℕ) (h : Holder) (object : Option ℕ) → StepGo (release_step t h st object)
  release_go t h None = same_go
  release_go t h (Some o) = same_go

  claim_go : (h k : Holder) (object : Option ℕ) → StepGo (claim_step st h object k)
  claim_go h k None = same_go
  claim_go h k (Some o) = same_go

  pack_go : (t : ℕ) (h k : Holder) (object : Option ℕ) → StepGo (pack_step t st h object k)
  pack_go t h k None = same_go
  pack_go t h k (Some o) = same_go

  statement_go : (s : Script) (t d : ℕ) (x : Statement) (used : List (Option ℕ)) (ownership : Ownership)
      → StepGo (statement_step s t d st x used ownership)
  statement_go s t d x used Keeps = deal_goes s t x used
  statement_go s t d x used (Binds v) = same_go
  statement_go s t d x used (Retains v) = retain_go (variable t d v) (first_of used)
  statement_go s t d x used (Releases v) = release_go t (variable t d v) (first_of used)

  line_go : (s : Script) (t d : ℕ) (bs : List Binding) (x : BlockLine) → StepGo (line_step s t d st bs x)
  line_go s t d bs (begins v) = same_go
  line_go s t d bs (claims k v) = claim_go (parcel t k) (variable t d v) (first_held (parcel t k) st.edges)
  line_go s t d bs (packs u k v) = pack_go t (packed_holder t d v) (parcel u k) (object_at bs v)
  line_go s t d bs (says x) = statement_go s t d x (used_objects bs (says x)) (ownership_of x)

  end_go : (t : ℕ) → StepGo (end_step t st)
  end_go t = by (eqb t 0)
    where
      by : (b : Bool)
          → FlagsGo w st.parts.flags (cond b (record st.parts { flags = start_all st.parts.flags }) st.parts).flags
      by true = all_go (λ (f : Flags). record f { is_started = true }) (λ f. record { started = λ e. refl; stays_awake = λ e. e }) w st.parts.flags
      by false = same_go

  fire_go : (item : Option ℕ) → FlagsGo w st.parts.flags (fire_if st.parts item).flags
  fire_go None = same_go
  fire_go (Some i) = by (thing_at st.parts i)
    where
      by : (x : Option Thing) → FlagsGo w st.parts.flags (fire st.parts i x).flags
      by None = same_go
      by (Some x) = same_go

  close_go : (k : Kind) → StepGo (close_step st k)
  close_go (of_run r) = same_go
  close_go of_block = same_go
  close_go (of_handler k) = same_go

  module _ (t : ℕ) (apart : w ≡ t → ⊥) where
    sleep_go : (answer : Answer) (sleep : Sleeping) → StepGo (sleeping st t answer sleep)
    sleep_go answer sleep = other_goes w t _ st.parts.flags apart

    phase_go : (p : Phase) (k : Kind) → StepGo (phase_step st t p k)
    phase_go p k = phase_case StepGo st t p k (record { woken = sleep_go answers.Woken awake; due = same_go; sleeps = λ d. sleep_go (answers.Asleep d) (until d); tests = λ r. same_go; collects = λ l. same_go })

    -- what another thread demands leaves this one going
    pub step_go : (s : Script) (fs : List Frame) (d : Demand) → StepGo (step_of s t st fs d)
    step_go s fs (does x) = line_go s t (depth_of fs) (bindings_of fs) x
    step_go s fs ends = end_go t
    step_go s fs returns = same_go
    step_go s fs (owes o) = same_go
    step_go s fs (spends i) = spend_go s i
    step_go s fs (drops b k o) = same_go
    step_go s fs (calls k c) = fire_go (item_of k)
    step_go s fs (enters p) = phase_go p (top_kind fs)
    step_go s fs closes = close_go (top_kind fs)

-- ---- entries

stopped_done : (stops : Option ℕ) (w : ℕ) (ss : List Stand)
    → (stand_at w (stopped_at stops ss)).is_done ≡ (stand_at w ss).is_done
stopped_done None w ss = refl
stopped_done (Some u) w ss = elim (eqb_tells w u) [
  | inl e ↦ subst (λ (n : ℕ). (stand_at n (stopped_at (Some u) ss)).is_done ≡ (stand_at n ss).is_done) (sym e.1) (ap (λ (s : Stand). s.is_done) (at_own blank u (stop_stand (stand_at u ss)) ss))
  | inr e ↦ ap (λ (s : Stand). s.is_done) (at_other blank w u (stop_stand (stand_at u ss)) ss e.1)
]

pub record ThreadGoes (w : ℕ) (st next : State) : Type 0 where
  pub flags : FlagsGo w st.parts.flags next.parts.flags
  pub done : (stand_at w next.stands).is_done ≡ (stand_at w st.stands).is_done

pub acted_goes : (s : Script) (t w : ℕ) (st : State) (d : Option Demand) → (w ≡ t → ⊥)
    → ThreadGoes w st (acted s t st d)
acted_goes s t w st None apart = record { flags = same_flag (flags_at w st.parts.flags); done = refl }
acted_goes s t w st (Some d) apart =
    let step = step_of s t st (frames_at t st) d in
    let new = stand_after t d step st in
    record {
      flags = step_go w st t apart s (frames_at t st) d;
      done = stopped_done step.stops w (with_stand t new st.stands) ∙ ap (λ (x : Stand). x.is_done) (at_other blank w t new st.stands apart);
    }

pub entry_goes : (s : Script) (t w : ℕ) (st : State) (a : Action) → (w ≡ t → ⊥)
    → ThreadGoes w st (after_action s t st a)
entry_goes s t w st (actions.Tick n) apart = record { flags = all_go (tick_flags n) (tick_goes n) w st.parts.flags; done = refl }
entry_goes s t w st actions.Stall apart = record { flags = same_flag (flags_at w st.parts.flags); done = refl }
entry_goes s t w st a apart = acted_goes s t w st (demanded s st t) apart

is_awake : (s : Sleeping) → not (is_asleep s) ≡ true → s ≡ awake
is_awake awake e = refl
is_awake (until d) e = absurd cc

pub goes_on : (w : ℕ) (st next : State) → ThreadGoes w st next → can_go st w ≡ true → can_go next w ≡ true
goes_on w st next h e =
    let going = and_parts (is_going st w) (not (sleeps st w)) e in
    let both = and_parts (flags_at w st.parts.flags).is_started (not (stand_at w st.stands).is_done) going.0 in
    let now_awake = h.flags.stays_awake (is_awake (flags_at w st.parts.flags).sleep going.1) in
    and_from (is_going next w) (not (sleeps next w))
    (and_from (flags_at w next.parts.flags).is_started (not (stand_at w next.stands).is_done) (h.flags.started both.0) (ap not h.done ∙ both.1))
    (ap (λ (s : Sleeping). not (is_asleep s)) now_awake)
