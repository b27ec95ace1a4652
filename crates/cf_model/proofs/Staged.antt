-- What scripts have not whose statements are all of the forms that the reader takes: nobody posts, and nothing is
-- registered.
use Rattle.std.proofs.Common.{◌≡◌, ℕ, ◌∙◌, Bool, true, false, cond, List, [], ◌∷◌, Option, Some, None, refl, ap}
use Rattle.std.specs.Prelude.{slice_get, ◌==◌, ◌&&◌, not}
use Rattle.rl_turn.specs.declared.phases.Phase.{Phase}
use Rattle.rl_turn.specs.declared.phases.Phase.TheVariants as phases
use Rattle.cf_ids.specs.declared.answer.Answer.{Answer}
use Rattle.cf_ids.specs.declared.answer.Answer.TheVariants as answers
use Rattle.cf_syntax.specs.declared.script.Script.{Script}
use Rattle.cf_syntax.specs.declared.statement.Statement.{Statement}
use Rattle.cf_syntax.specs.declared.statement.Statement.TheVariants as forms
use Rattle.cf_syntax.specs.declared.mention.Ownership.{Ownership}
use Rattle.cf_syntax.specs.declared.mention.Ownership.TheVariants.{Keeps, Binds, Retains, Releases}
use Rattle.cf_syntax.specs.Mentions.{ownership_of, first_of}
use Rattle.cf_syntax.specs.BlockLines.{BlockLine, begins, claims, says, packs}
use Rattle.cf_syntax.specs.Stage.{is_of_stage, IsOfStage}
use Rattle.cf_syntax.proofs.StageLaws.{SaysOfStage, thread_line, handler_line}
use Rattle.cf_graph.specs.Holders.{variable, parcel}
use Rattle.cf_contents.specs.Items.{Item, source_item, kind_of}
use Rattle.cf_contents.specs.Deeds.{Change, deed_at}
use Rattle.cf_next.specs.Facts.{Facts}
use Rattle.cf_next.specs.Stands.{Binding, Work, Kind, of_block, of_handler, of_run, Turn, Frame, item_of, has_run}
use Rattle.cf_next.specs.Demands.{Demand, does, ends, returns, owes, spends, drops, calls, enters, closes, frame_lines}
use Rattle.cf_next.specs.Advance.{top_kind}
use Rattle.cf_next.specs.Next.{object_at, used_objects}
use Rattle.cf_next.specs.declared.action.Action.{Action}
use Rattle.cf_model.specs.declared.entry.Entry.{Entry}
use Rattle.cf_model.specs.State.{State, Parts, Sleeping, awake, start, stand_at, flags_at, first_held, is_common}
use Rattle.cf_model.specs.Known.{facts_of}
use Rattle.cf_model.specs.Things.{Thing, thing_at}
use Rattle.cf_model.specs.Deals.{Deal, with_used, with_thing, thing_deal, holds_at, place_in, thread_in, stays_in_one, is_elsewhere, signal_deal, change_deal, change_unless_skipped, deal_of, posts_of}
use Rattle.cf_model.specs.Steps.{fire, fire_if, spend_if, idle, sleeping, retain_step, release_step, claim_step, pack_step, packed_holder, statement_step, line_step, start_all, sleep_step, unwoken_step, phase_step, close_step, step_of, frames_at, bindings_of, depth_of, demanded, acted}
use Rattle.cf_model.specs.Journals.{after_action, state_from, After}
use Rattle.cf_model.proofs.Entries.{ActionView, is_tick, is_stall, is_step, action_view}
use Rattle.cf_model.proofs.Views.{FrameView, StandView, WorkView, first_drops, first_owes, first_spends, is_call, is_close, is_end, is_line, is_phase, is_return, of_frame, of_work, stand_view}

-- ---- lines

-- what a line of a frame says is of such a form
pub line_of_stage : (s : Script) (k : Kind) (b n : ℕ) (x : Statement) → IsOfStage s
    → slice_get (frame_lines s k b) n ≡ Some (says x) → is_of_stage x ≡ true
line_of_stage s of_block b n x of e = thread_line s b of n (says x) e
line_of_stage s (of_handler k) h n x of e = handler_line s h of n (says x) e
line_of_stage s (of_run r) b n x of e = absurd cc

-- such a statement posts to nobody
pub stage_posts : (p : Parts) (x : Statement) (used : List (Option ℕ)) → is_of_stage x ≡ true → posts_of p x used ≡ []
stage_posts p (forms.Post name info) used of = absurd cc
stage_posts p x used of = refl

-- ---- deals

module _ (st : State) where
  -- these parts have the registrations of the state
  abbrev Same : Parts → Type 0
  Same p = p.registrations ≡ st.parts.registrations

  same_used : (o : Option ℕ) (deal : ℕ → Deal) → ((i : ℕ) → Same (deal i).parts) → Same (with_used st.parts o deal).parts
  same_used None deal h = refl
  same_used (Some i) deal h = h i

  same_thing : (o : Option ℕ) (deal : ℕ → Thing → Deal) → ((i : ℕ) (x : Thing) → Same (deal i x).parts)
      → Same (with_thing st.parts o deal).parts
  same_thing None deal h = refl
  same_thing (Some i) deal h = by (thing_at st.parts i)
    where
      by : (x : Option Thing) → Same (thing_deal st.parts i deal x).parts
      by None = refl
      by (Some x) = h i x

  same_either : (b : Bool) (x y : Deal) → Same x.parts → Same y.parts → Same (cond b x y).parts
  same_either true x y h k = h
  same_either false x y h k = k

  same_signal : (i : ℕ) (valid : Bool) (item : Item) → Same (signal_deal st.parts i valid item).parts
  same_signal i true (source_item order on) = refl
  same_signal i false (source_item order on) = refl
  same_signal i valid _ = refl

  same_change : (a : Answer) (b : Option ℕ) (change : Change) → Same (change_deal st.parts a b change).parts
  same_change a None change = refl
  same_change a (Some b) change = refl

  same_deal : (s : Script) (t : ℕ) (x : Statement) (used : List (Option ℕ)) → is_of_stage x ≡ true
      → Same (deal_of s t st x used).parts
  same_deal s t (forms.Add v u m) used of =
      same_thing (first_of used) _ (λ i x. same_used (thread_in t u) _ (λ w.
      same_either (not x.valid) _ _ refl (same_either (stays_in_one (kind_of x.item) && is_elsewhere s w i st.edges) _ _ refl
      (same_either (holds_at w i st.edges (place_in m)) _ _ refl refl))))
  same_deal s t (forms.Drop v u m) used of =
      same_thing (first_of used) _ (λ i x. same_used (thread_in t u) _ (λ w. same_either (holds_at w i st.edges (place_in m)) _ _ refl refl))
  same_deal s t (forms.Common u m) used of = same_used (thread_in t u) _ (λ w. same_either (is_common w st.parts.commons m) _ _ refl refl)
  same_deal s t (forms.Signal v) used of = same_thing (first_of used) _ (λ i x. same_signal i x.valid x.item)
  same_deal s t (forms.Invalidate v) used of = same_thing (first_of used) _ (λ i x. same_either x.valid _ _ refl refl)
  same_deal s t (forms.Wake u) used of = same_used (thread_in t u) _ (λ w. refl)
  same_deal s t (forms.Stop u) used of = same_used (thread_in t u) _ (λ w. same_either (has_run (stand_at w st.stands).frames) _ _ refl refl)
  same_deal s t (forms.Run m limit once) used of = refl
  same_deal s t (forms.Observe v h name x) used of = absurd cc
  same_deal s t (forms.Forget v name x) used of = absurd cc
  same_deal s t (forms.Post name info) used of = absurd cc
  same_deal s t x used of =
      let deed = deed_at s.classes st.parts.objects x used in
      same_change deed.answer (first_of used) (change_unless_skipped deed.answer deed.change)

  -- ---- lines

  same_statement : (s : Script) (t d : ℕ) (x : Statement) (used : List (Option ℕ)) (w : Ownership)
      → is_of_stage x ≡ true → Same (statement_step s t d st x used w).parts
  same_statement s t d x used Keeps of = same_deal s t x used of
  same_statement s t d x used (Binds v) of = refl
  same_statement s t d x used (Retains v) of = by (first_of used)
    where
      by : (o : Option ℕ) → Same (retain_step (variable t d v) st o).parts
      by None = refl
      by (Some o) = refl
  same_statement s t d x used (Releases v) of = by (first_of used)
    where
      by : (o : Option ℕ) → Same (release_step t (variable t d v) st o).parts
      by None = refl
      by (Some o) = refl

  same_line : (s : Script) (t d : ℕ) (bs : List Binding) (x : BlockLine) → SaysOfStage x
      → Same (line_step s t d st bs x).parts
  same_line s t d bs (begins v) of = refl
  same_line s t d bs (claims k v) of = by (first_held (parcel t k) st.edges)
    where
      by : (o : Option ℕ) → Same (claim_step st (parcel t k) o (variable t d v)).parts
      by None = refl
      by (Some o) = refl
  same_line s t d bs (packs u k v) of = by (object_at bs v)
    where
      by : (o : Option ℕ) → Same (pack_step t st (packed_holder t d v) o (parcel u k)).parts
      by None = refl
      by (Some o) = refl
  same_line s t d bs (says x) of = same_statement s t d x (used_objects bs (says x)) (ownership_of x) of

  -- ---- what no line writes

  same_fire : (o : Option ℕ) → Same (fire_if st.parts o)
  same_fire None = refl
  same_fire (Some i) = by (thing_at st.parts i)
    where
      by : (x : Option Thing) → Same (fire st.parts i x)
      by None = refl
      by (Some x) = refl

  same_spend : (s : Script) (x : Option Thing) (i : ℕ) → Same (spend_if s st i x).parts
  same_spend s None i = refl
  same_spend s (Some x) i = by x.valid
    where
      by : (b : Bool) → Same (spend_if s st i (Some (record x { valid = b }))).parts
      by true = refl
      by false = refl

  same_sleep : (t : ℕ) (r : Turn) → Same (sleep_step st t r).parts
  same_sleep t r = by (flags_at t st.parts.flags).is_woken
    where
      unwoken : (b : Bool) (a : Answer) (sleep : Sleeping)
          → Same (cond b (idle st answers.Due) (sleeping st t a sleep)).parts
      unwoken true a sleep = refl
      unwoken false a sleep = refl

      by : (b : Bool) → Same (cond b (sleeping st t answers.Woken awake) (unwoken_step st t r)).parts
      by true = refl
      by false = unwoken _ _ _

  same_phase : (t : ℕ) (p : Phase) (k : Kind) → Same (phase_step st t p k).parts
  same_phase t phases.Sleep (of_run r) = same_sleep t r
  same_phase t p of_block = refl
  same_phase t p (of_handler k) = refl
  same_phase t p (of_run r) = refl

  same_end : (b : Bool) → Same (cond b (record st.parts { flags = start_all st.parts.flags }) st.parts)
  same_end true = refl
  same_end false = refl

  same_close : (k : Kind) → Same (close_step st k).parts
  same_close of_block = refl
  same_close (of_handler k) = refl
  same_close (of_run r) = refl

  -- a demand says nothing of another form
  abbrev DemandOfStage : Demand → Type 0
  DemandOfStage (does x) = SaysOfStage x
  DemandOfStage _ = Unit {0}

  same_step : (s : Script) (t : ℕ) (fs : List Frame) (d : Demand) → DemandOfStage d → Same (step_of s t st fs d).parts
  same_step s t fs (does x) of = same_line s t (depth_of fs) (bindings_of fs) x of
  same_step s t fs ends of = same_end (t == 0)
  same_step s t fs returns of = refl
  same_step s t fs (owes o) of = refl
  same_step s t fs (spends i) of = same_spend s (thing_at st.parts i) i
  same_step s t fs (drops b k o) of = refl
  same_step s t fs (calls k c) of = same_fire (item_of k)
  same_step s t fs (enters p) of = same_phase t p (top_kind fs)
  same_step s t fs closes of = same_close (top_kind fs)

  -- ---- what a thread demands

  module _ (s : Script) (t : ℕ) (of : IsOfStage s) where
    by_line : (f : Frame) (x : BlockLine) → slice_get (frame_lines s f.kind f.block) f.number ≡ Some x → SaysOfStage x
    by_line f (begins v) at = tt
    by_line f (claims k v) at = tt
    by_line f (says x) at = line_of_stage s f.kind f.block f.number x of at
    by_line f (packs u k v) at = tt

    by_frame : (f : Frame) (d : Demand) → FrameView s (facts_of st) t f d → DemandOfStage d
    by_frame f _ (is_line x at) = by_line f x at
    by_frame f _ (is_call k called found) = tt
    by_frame f _ (is_end k) = tt
    by_frame f _ (is_return k q end) = tt
    by_frame f _ (is_phase r p q) = tt
    by_frame f _ (is_close r q) = tt

    by_work : (facts : Facts) (work : List Work) (d : Demand) → WorkView facts work d → DemandOfStage d
    by_work facts work _ (first_owes p first) = tt
    by_work facts work _ (first_spends i first) = tt
    by_work facts work _ (first_drops b k p left first) = tt

    by_stand : (d : Demand) → StandView s (facts_of st) t (stand_at t st.stands) d → DemandOfStage d
    by_stand d (of_work w view) = by_work (facts_of st) (stand_at t st.stands).work d view
    by_stand d (of_frame f fs w q view) = by_frame f d view

    same_acted : (d : Option Demand) → demanded s st t ≡ d → Same (acted s t st d).parts
    same_acted None e = refl
    same_acted (Some d) e = same_step s t (frames_at t st) d (by_stand d (stand_view s (facts_of st) t (stand_at t st.stands) d e))

    same_entry : (a : Action) → ActionView a → Same (after_action s t st a).parts
    same_entry _ (is_tick n) = refl
    same_entry _ is_stall = refl
    same_entry a (is_step _ step) =
        ap (λ (z : State). z.parts.registrations) (step.after s t st) ∙ same_acted (demanded s st t) refl

-- ---- journals

same_from : (s : Script) (st : State) (es : List Entry) → IsOfStage s
    → (state_from s st es).parts.registrations ≡ st.parts.registrations
same_from s st [] of = refl
same_from s st (e ∷ es) of =
    same_from s (after_action s e.thread st e.action) es of ∙ same_entry st s e.thread of e.action (action_view e.action)

-- after every list of entries of such a script nothing is registered
pub unregistered : (s : Script) (es : List Entry) → IsOfStage s → (After s es).parts.registrations ≡ []
unregistered s es of = same_from s (start s) es of
