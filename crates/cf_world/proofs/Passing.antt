-- What a demand leaves as it is: the kinds of items, the common modes and the registrations; and so the loops stay
-- those of the state, but for the demands that move references of their places.
use Rattle.std.proofs.Common.{◌≡◌, ℕ, ◌∙◌, Bool, true, false, cond, List, Option, Some, None, refl, sym, ap, subst}
use Rattle.std.specs.Prelude.{◌==◌}
use Rattle.rl_modes.specs.Loops.{Loop}
use Rattle.rl_turn.specs.declared.phases.Phase.{Phase}
use Rattle.rl_turn.specs.declared.phases.Phase.TheVariants as phases
use Rattle.cf_ids.specs.declared.answer.Answer.{Answer}
use Rattle.cf_ids.specs.declared.answer.Answer.TheVariants as answers
use Rattle.cf_ids.specs.declared.numbers.ItemKind.{ItemKind}
use Rattle.cf_syntax.specs.declared.script.Script.{Script}
use Rattle.cf_syntax.specs.declared.statement.Statement.{Statement}
use Rattle.cf_syntax.specs.declared.statement.Statement.TheVariants as forms
use Rattle.cf_syntax.specs.declared.mention.Ownership.{Ownership}
use Rattle.cf_syntax.specs.declared.mention.Ownership.TheVariants.{Keeps, Binds, Retains, Releases}
use Rattle.cf_syntax.specs.Mentions.{ownership_of, first_of, used_at}
use Rattle.cf_syntax.specs.BlockLines.{BlockLine, begins, claims, says, packs}
use Rattle.cf_syntax.specs.Stage.{is_of_stage, IsOfStage}
use Rattle.cf_syntax.specs.Owned.{FitsByBlock}
use Rattle.cf_graph.specs.Holders.{variable, parcel}
use Rattle.cf_contents.specs.Items.{Item, source_item, timer_item, observer_item, kind_of}
use Rattle.cf_contents.specs.Keys.{numbered}
use Rattle.cf_contents.specs.Deeds.{Change, in_item, with_change}
use Rattle.cf_contents.proofs.FormLaws.{form_fits, ChangesNoItem}
use Rattle.cf_next.specs.Facts.{Facts}
use Rattle.cf_next.specs.Stands.{Binding, Work, Frame, Kind, of_block, of_handler, of_run, Turn, item_of, has_run}
use Rattle.cf_next.specs.Demands.{Demand, does, ends, returns, owes, spends, drops, calls, enters, closes}
use Rattle.cf_next.specs.Advance.{top_kind}
use Rattle.cf_next.specs.Next.{object_at, used_objects, action_in}
use Rattle.cf_model.specs.State.{State, Parts, Flags, Sleeping, awake, first_held, stand_at, flags_at}
use Rattle.cf_model.specs.Known.{facts_of}
use Rattle.cf_model.specs.Things.{Thing, thing_at}
use Rattle.cf_model.specs.Deals.{Deal, with_used, with_thing, thing_deal, with_item, signal_source, signal_deal, stop_deal, okay, answering, wake_parts, change_deal, change_unless_skipped, deal_of}
use Rattle.cf_model.specs.Steps.{fired, idle, sleeping, start_all, fire, fire_if, retain_step, release_step, claim_step, pack_step, packed_holder, statement_step, line_step, sleep_step, unwoken_step, phase_step, close_step, step_of, step_answer, frames_at, bindings_of, depth_of, demanded, done_by}
use Rattle.cf_model.specs.Plain.{deed_in}
use Rattle.cf_model.specs.Journals.{owners_of}
use Rattle.cf_model.proofs.Acting.{demand_fits}
use Rattle.cf_model.proofs.PlainDeals.{deed_fits}
use Rattle.cf_model.proofs.Staged.{line_of_stage}
use Rattle.cf_model.proofs.Sound.{uses_at_most}
use Rattle.cf_model.proofs.Using.{IsSound, demand_may}
use Rattle.cf_model.proofs.Views.{FrameView, StandView, WorkView, first_drops, first_owes, first_spends, is_call, is_close, is_end, is_line, is_phase, is_return, of_frame, of_work, stand_view}
use Rattle.cf_loops.specs.Following.{SameItems, KeepsKind, kind_in, LeavesLoops, LineLeavesLoops, DemandLeavesLoops}
use Rattle.cf_loops.proofs.Demanding.{step_elsewhere}
use Rattle.cf_loops.proofs.Staying.{kept_by_flow, kinds_changed, kinds_made}
use Rattle.cf_world.specs.Grounds.{HasLoops}

-- ---- parts that are as they were for loops and notices

pub record Passes (p q : Parts) : Type 0 where
  pub items : SameItems p q
  pub registrations : q.registrations ≡ p.registrations

same : (p : Parts) → Passes p p
same p = record { items = record { commons = refl; kinds = λ i k e. e }; registrations = refl }

flags_only : (p : Parts) (flags : List Flags) → Passes p (record p { flags = flags })
flags_only p flags = record { items = record { commons = refl; kinds = λ i k e. e }; registrations = refl }

-- a change of an object that leaves an item one of its kind
changed : (p : Parts) (o : ℕ) (change : Change)
    → ((k : ItemKind) → kind_in (thing_at p o) ≡ Some k → KeepsKind change k)
    → Passes p (record p { objects = with_change o change p.objects })
changed p o change fits =
    record { items = record { commons = refl; kinds = kinds_changed o change p.objects fits }; registrations = refl }

-- an item that is there, of the same kind
kind_told : (p : Parts) (i : ℕ) (x : Thing) (j k : ItemKind) → thing_at p i ≡ Some x → kind_of x.item ≡ j
    → kind_in (thing_at p i) ≡ Some k → j ≡ k
kind_told p i x j k there is e =
    let both : ◌≡◌ {A = Option ItemKind} (Some (kind_of x.item)) (Some k) = sym (ap kind_in there) ∙ e in
    sym is ∙ some_is (kind_of x.item) k both
  where
    some_is : (a b : ItemKind) → ◌≡◌ {A = Option ItemKind} (Some a) (Some b) → a ≡ b
    some_is a b e = cc

item_changed : (p : Parts) (i : ℕ) (x : Thing) (valid : Bool) (item : Item) → thing_at p i ≡ Some x
    → kind_of x.item ≡ kind_of item → Passes p (with_item p i valid item)
item_changed p i x valid item there is =
    changed p i (in_item valid item) (λ k e. kind_told p i x (kind_of item) k there is e)

-- ---- deals

by_used : (p : Parts) (o : Option ℕ) (deal : ℕ → Deal) → ((i : ℕ) → Passes p (deal i).parts)
    → Passes p (with_used p o deal).parts
by_used p None deal h = same p
by_used p (Some i) deal h = h i

by_thing : (p : Parts) (o : Option ℕ) (deal : ℕ → Thing → Deal)
    → ((i : ℕ) (x : Thing) → thing_at p i ≡ Some x → Passes p (deal i x).parts)
    → Passes p (with_thing p o deal).parts
by_thing p None deal h = same p
by_thing p (Some i) deal h = by (thing_at p i) refl
  where
    by : (q : Option Thing) → thing_at p i ≡ q → Passes p (thing_deal p i deal q).parts
    by None e = same p
    by (Some x) e = h i x e

signals : (p : Parts) (i : ℕ) (x : Thing) → thing_at p i ≡ Some x → (item : Item) → x.item ≡ item
    → Passes p (signal_deal p i x.valid item).parts
signals p i x there (source_item order signalled) is = by x.valid
  where
    by : (b : Bool) → Passes p (signal_source p i b order).parts
    by true = item_changed p i x true (source_item order true) there (ap kind_of is)
    by false = same p
signals p i x there (timer_item first interval date) is = same p
signals p i x there (observer_item mask repeats order) is = same p

no_item_kind : (change : Change) → ChangesNoItem change → (k : ItemKind) → KeepsKind change k
no_item_kind (in_item valid item) h k = absurd h
no_item_kind _ h k = tt

changes : (p : Parts) (a : Answer) (o : Option ℕ) (change : Change) → ((k : ItemKind) → KeepsKind change k)
    → Passes p (change_deal p a o change).parts
changes p a None change h = same p
changes p a (Some b) change h = changed p b change (λ k e. h k)

deed_passes : (s : Script) (st : State) (x : Statement) (used : List (Option ℕ))
    → let deed = deed_in s st x used in
    Passes st.parts
    (change_deal st.parts deed.answer (first_of used) (change_unless_skipped deed.answer deed.change)).parts
deed_passes s st x used =
    let deed = deed_in s st x used in
    let fits = form_fits s.classes x (numbered st.parts.objects (used_at used 0)) (numbered st.parts.objects (used_at used 1)) (numbered st.parts.objects (used_at used 2)) in
    changes st.parts deed.answer (first_of used) (change_unless_skipped deed.answer deed.change)
    (λ k. subst (λ (c : Change). KeepsKind c k) (sym (deed_fits s st x used).0) (no_item_kind deed.change fits.apart k))

-- a statement that registers nothing and forgets nothing
abbrev pub LeavesNotices : Statement → Type 0
LeavesNotices (forms.Observe v h name x) = ⊥
LeavesNotices (forms.Forget v name x) = ⊥
LeavesNotices _ = Unit {0}

deal_passes : (s : Script) (t : ℕ) (st : State) (x : Statement) (used : List (Option ℕ)) → LeavesLoops x
    → LeavesNotices x → Passes st.parts (deal_of s t st x used).parts
deal_passes s t st (forms.Add v u m) used leaves quiet = absurd leaves
deal_passes s t st (forms.Drop v u m) used leaves quiet = absurd leaves
deal_passes s t st (forms.Common u m) used leaves quiet = absurd leaves
deal_passes s t st (forms.Signal v) used leaves quiet =
    by_thing st.parts (first_of used) _ (λ i x there. signals st.parts i x there x.item refl)
deal_passes s t st (forms.Invalidate v) used leaves quiet = absurd leaves
deal_passes s t st (forms.Wake u) used leaves quiet =
    by_used st.parts _ _ (λ w. flags_only st.parts (wake_parts st.parts w).flags)
deal_passes s t st (forms.Stop u) used leaves quiet =
    by_used st.parts _ (stop_deal st) (λ w. by w (has_run (stand_at w st.stands).frames))
  where
    by : (w : ℕ) (b : Bool)
        → Passes st.parts (cond b (record (okay (wake_parts st.parts w)) { stops = Some w }) (answering st.parts answers.Idle)).parts
    by w true = flags_only st.parts (wake_parts st.parts w).flags
    by w false = same st.parts
deal_passes s t st (forms.Run m limit once) used leaves quiet = same st.parts
deal_passes s t st (forms.Observe v h name x) used leaves quiet = absurd quiet
deal_passes s t st (forms.Forget v name x) used leaves quiet = absurd quiet
deal_passes s t st (forms.Post name info) used leaves quiet = same st.parts
deal_passes s t st x used leaves quiet = deed_passes s st x used

-- ---- statements

statement_passes : (s : Script) (t d : ℕ) (st : State) (x : Statement) (used : List (Option ℕ)) (w : Ownership)
    → LeavesLoops x → LeavesNotices x → Passes st.parts (statement_step s t d st x used w).parts
statement_passes s t d st x used Keeps leaves quiet = deal_passes s t st x used leaves quiet
statement_passes s t d st x used (Binds v) leaves quiet = record {
  items = record { commons = refl; kinds = kinds_made st.parts.objects _ };
  registrations = refl;
}
statement_passes s t d st x used (Retains v) leaves quiet = by (first_of used)
  where
    by : (o : Option ℕ) → Passes st.parts (retain_step (variable t d v) st o).parts
    by None = same st.parts
    by (Some o) = same st.parts
statement_passes s t d st x used (Releases v) leaves quiet = by (first_of used)
  where
    by : (o : Option ℕ) → Passes st.parts (release_step t (variable t d v) st o).parts
    by None = same st.parts
    by (Some o) = same st.parts

-- a line registers nothing and forgets nothing
abbrev pub LineLeavesNotices : BlockLine → Type 0
LineLeavesNotices (says x) = LeavesNotices x
LineLeavesNotices _ = Unit {0}

line_passes : (s : Script) (t d : ℕ) (st : State) (bs : List Binding) (x : BlockLine) → LineLeavesLoops x
    → LineLeavesNotices x → Passes st.parts (line_step s t d st bs x).parts
line_passes s t d st bs (begins v) leaves quiet = same st.parts
line_passes s t d st bs (claims k v) leaves quiet = by (first_held (parcel t k) st.edges)
  where
    by : (o : Option ℕ) → Passes st.parts (claim_step st (parcel t k) o (variable t d v)).parts
    by None = same st.parts
    by (Some o) = same st.parts
line_passes s t d st bs (packs u k v) leaves quiet = by (object_at bs v)
  where
    by : (o : Option ℕ) → Passes st.parts (pack_step t st (packed_holder t d v) o (parcel u k)).parts
    by None = same st.parts
    by (Some o) = same st.parts
line_passes s t d st bs (says x) leaves quiet =
    statement_passes s t d st x (used_objects bs (says x)) (ownership_of x) leaves quiet

-- ---- what no line writes

fires : (p : Parts) (o : Option ℕ) → Passes p (fire_if p o)
fires p None = same p
fires p (Some i) = by (thing_at p i) refl
  where
    kind_stays : (item : Item) → kind_of item ≡ kind_of (fired p.time item)
    kind_stays (source_item order signalled) = refl
    kind_stays (timer_item first interval date) = refl
    kind_stays (observer_item mask repeats order) = refl

    by : (q : Option Thing) → thing_at p i ≡ q → Passes p (fire p i q)
    by None e = same p
    by (Some x) e = item_changed p i x x.valid (fired p.time x.item) e (kind_stays x.item)

sleeps : (st : State) (t : ℕ) (r : Turn) → Passes st.parts (sleep_step st t r).parts
sleeps st t r = by (flags_at t st.parts.flags).is_woken
  where
    unwoken : (b : Bool) (a : Answer) (sleep : Sleeping)
        → Passes st.parts (cond b (idle st answers.Due) (sleeping st t a sleep)).parts
    unwoken true a sleep = same st.parts
    unwoken false a sleep = flags_only st.parts _

    by : (b : Bool) → Passes st.parts (cond b (sleeping st t answers.Woken awake) (unwoken_step st t r)).parts
    by true = flags_only st.parts _
    by false = unwoken _ _ _

phase_passes : (st : State) (t : ℕ) (p : Phase) (k : Kind) → Passes st.parts (phase_step st t p k).parts
phase_passes st t phases.Sleep (of_run r) = sleeps st t r
phase_passes st t p of_block = same st.parts
phase_passes st t p (of_handler k) = same st.parts
phase_passes st t p (of_run r) = same st.parts

-- a demand registers nothing and forgets nothing
abbrev pub DemandLeavesNotices : Demand → Type 0
DemandLeavesNotices (does x) = LineLeavesNotices x
DemandLeavesNotices _ = Unit {0}

pub demand_passes : (s : Script) (t : ℕ) (st : State) (fs : List Frame) (d : Demand) → DemandLeavesLoops d
    → DemandLeavesNotices d → Passes st.parts (step_of s t st fs d).parts
demand_passes s t st fs (does x) leaves quiet = line_passes s t (depth_of fs) st (bindings_of fs) x leaves quiet
demand_passes s t st fs ends leaves quiet = by (t == 0)
  where
    by : (b : Bool) → Passes st.parts (cond b (record st.parts { flags = start_all st.parts.flags }) st.parts)
    by true = flags_only st.parts (start_all st.parts.flags)
    by false = same st.parts
demand_passes s t st fs returns leaves quiet = same st.parts
demand_passes s t st fs (owes o) leaves quiet = same st.parts
demand_passes s t st fs (spends i) leaves quiet = absurd leaves
demand_passes s t st fs (drops b k o) leaves quiet =
    record { items = record { commons = refl; kinds = λ i k e. e }; registrations = refl }
demand_passes s t st fs (calls k c) leaves quiet = fires st.parts (item_of k)
demand_passes s t st fs (enters p) leaves quiet = phase_passes st t p (top_kind fs)
demand_passes s t st fs closes leaves quiet = by (top_kind fs)
  where
    by : (k : Kind) → Passes st.parts (close_step st k).parts
    by of_block = same st.parts
    by (of_handler k) = same st.parts
    by (of_run r) = same st.parts

-- ---- what a thread says stands in its script

module _ (s : Script) (st : State) (t : ℕ) (stage : IsOfStage s) where
  abbrev says_form : Demand → Type 0
  says_form (does (says x)) = is_of_stage x ≡ true
  says_form _ = Unit {0}

  by_frame : (f : Frame) (d : Demand) → FrameView s (facts_of st) t f d → says_form d
  by_frame f _ (is_line (says x) at) = line_of_stage s f.kind f.block f.number x stage at
  by_frame f _ (is_line (begins v) at) = tt
  by_frame f _ (is_line (claims k v) at) = tt
  by_frame f _ (is_line (packs u k v) at) = tt
  by_frame f _ (is_call k called found) = tt
  by_frame f _ (is_end k) = tt
  by_frame f _ (is_return k q end) = tt
  by_frame f _ (is_phase r p q) = tt
  by_frame f _ (is_close r q) = tt

  by_work : (facts : Facts) (work : List Work) (d : Demand) → WorkView facts work d → says_form d
  by_work facts work _ (first_owes p first) = tt
  by_work facts work _ (first_spends i first) = tt
  by_work facts work _ (first_drops b k p left first) = tt

  by_stand : (d : Demand) → StandView s (facts_of st) t (stand_at t st.stands) d → says_form d
  by_stand d (of_work w view) = by_work (facts_of st) (stand_at t st.stands).work d view
  by_stand d (of_frame f fs w q view) = by_frame f d view

  pub said_of_stage : (x : Statement) → demanded s st t ≡ Some (does (says x)) → is_of_stage x ≡ true
  said_of_stage x e =
      by_stand (does (says x)) (stand_view s (facts_of st) t (stand_at t st.stands) (does (says x)) e)

staged_quiet : (x : Statement) → is_of_stage x ≡ true → LeavesNotices x
staged_quiet (forms.Observe v h name y) of = absurd cc
staged_quiet (forms.Forget v name y) of = absurd cc
staged_quiet x of = tt

pub demand_quiet : (s : Script) (st : State) (t : ℕ) (d : Demand) → IsOfStage s → demanded s st t ≡ Some d
    → DemandLeavesNotices d
demand_quiet s st t (does (begins v)) stage e = tt
demand_quiet s st t (does (claims k v)) stage e = tt
demand_quiet s st t (does (packs u k v)) stage e = tt
demand_quiet s st t (does (says x)) stage e = staged_quiet x (said_of_stage s st t stage x e)
demand_quiet s st t _ stage e = tt

-- ---- loops

pub retains_leave : (x : Statement) (v : ℕ) → ownership_of x ≡ Retains v → LeavesLoops x
retains_leave (forms.Retain w) v e = tt
retains_leave _ v e = absurd cc

pub releases_leave : (x : Statement) (v : ℕ) → ownership_of x ≡ Releases v → LeavesLoops x
releases_leave (forms.Release w) v e = tt
releases_leave _ v e = absurd cc

pub binds_leave : (x : Statement) (v : ℕ) → ownership_of x ≡ Binds v → LeavesLoops x
binds_leave (forms.Add item u m) v e = absurd cc
binds_leave (forms.Drop item u m) v e = absurd cc
binds_leave (forms.Common u m) v e = absurd cc
binds_leave (forms.Invalidate item) v e = absurd cc
binds_leave _ v e = tt

-- the loops stay those of the state
abbrev pub KeepsLoops : Script → ℕ → State → List Loop → Type 0
KeepsLoops s t st loops =
    (d : Demand) → demanded s st t ≡ Some d → DemandLeavesLoops d → HasLoops s (done_by s t st d) loops

module _ (s : Script) (t : ℕ) (st : State) (own : FitsByBlock s) (is_sound : IsSound s st) (stage : IsOfStage s) where
  pub keeps_loops : (loops : List Loop) → HasLoops s st loops → KeepsLoops s t st loops
  keeps_loops loops h d e leaves =
      let step = step_of s t st (frames_at t st) d in
      let passes = demand_passes s t st (frames_at t st) d leaves (demand_quiet s st t d stage e) in
      let a = action_in s (facts_of st) t (frames_at t st) d in
      let may = uses_at_most st t (owners_of a) a (step_answer step st) (demand_may s t st is_sound own d e) in
      record {
        loops_are =
            kept_by_flow s st.parts (done_by s t st d).parts st.edges step.flow loops h.loops_are
            (record { commons = passes.items.commons; kinds = passes.items.kinds }) (step_elsewhere s t st (frames_at t st) d leaves)
            (demand_fits s t st d is_sound.steady e may).there;
        unregistered = passes.registrations ∙ h.unregistered;
      }
