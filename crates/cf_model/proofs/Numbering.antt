-- How many stands and flags there are: one of each thread. A thread that is started stays so.
use Rattle.std.proofs.Common.{◌≡◌, ℕ, zero, suc, ◌+◌, ◌-◌, ◌<◌, ◌≤◌, Bool, true, false, cond, List, [], ◌∷◌, ◌++◌, length, map, take, Option, Some, None, ltb, refl, sym, ap, ◌∙◌, subst, arith, inl, inr, ◌==◌}
use Rattle.std.specs.Prelude.{not, ◌&&◌, slice_get, find}
use Rattle.std.specs.List.{range_with_len}
use Rattle.std.proofs.lemmas.Bool.{cases_lt, ltb-true}
use Rattle.std.proofs.lemmas.Bool.Decides.{eqb_tells}
use Rattle.std.proofs.lemmas.List.{length-map}
use Rattle.std.proofs.lemmas.List.FromFn.{length-map-range_with_len}
use Rattle.cf_ids.specs.declared.answer.Answer.{Answer}
use Rattle.cf_ids.specs.declared.answer.Answer.TheVariants as answers
use Rattle.rl_base.specs.declared.places.Place.{Place}
use Rattle.rl_base.specs.Modes.{items_gained}
use Rattle.cf_syntax.specs.declared.script.Script.{Script}
use Rattle.cf_syntax.specs.declared.statement.Statement.{Statement}
use Rattle.cf_syntax.specs.declared.statement.Statement.TheVariants as forms
use Rattle.cf_syntax.specs.declared.mention.Ownership.{Ownership}
use Rattle.cf_syntax.specs.declared.mention.Ownership.TheVariants.{Keeps, Binds, Retains, Releases}
use Rattle.cf_syntax.specs.declared.mention.ThreadWord.{ThreadWord}
use Rattle.cf_syntax.specs.declared.mention.ThreadWord.TheVariants.{Own, Named}
use Rattle.cf_syntax.specs.declared.refusal.Reason.TheVariants.{Undefined}
use Rattle.cf_syntax.specs.Mentions.{ownership_of, used_at, first_of, thread_mention}
use Rattle.cf_syntax.specs.BlockLines.{BlockLine, begins, claims, says, packs}
use Rattle.cf_syntax.specs.Owned.{FitsByBlock, or_else, place_fault, thread_fault, line_fault}
use Rattle.cf_syntax.proofs.BlockLaws.{none_first, owned_fits}
use Rattle.cf_contents.specs.Items.{Item, source_item, kind_of}
use Rattle.cf_contents.specs.Deeds.{Change, deed_at}
use Rattle.cf_graph.specs.Holders.{variable, parcel, in_mode}
use Rattle.cf_graph.specs.Edges.{held_by, has}
use Rattle.cf_next.specs.declared.action.Action.{Action}
use Rattle.cf_next.specs.declared.action.Action.TheVariants as actions
use Rattle.cf_next.specs.Stands.{item_of, Kind, of_block, of_handler, of_run, Frame, Stand, has_run, opening_stand, stop_stand}
use Rattle.cf_next.specs.Demands.{Demand, does, ends, returns, owes, spends, drops, calls, enters, closes, demand, frame_lines}
use Rattle.cf_next.specs.Advance.{top_kind}
use Rattle.cf_next.specs.Next.{object_at, used_objects}
use Rattle.cf_model.specs.declared.entry.Entry.{Entry}
use Rattle.cf_model.specs.State.{Flags, Sleeping, awake, until, Parts, State, start, at_or, with_at, blank, stand_at, with_stand, flags_of, flags_at, with_flags, is_common, first_held}
use Rattle.cf_model.specs.Known.{facts_of}
use Rattle.cf_model.specs.Things.{Thing, thing_at}
use Rattle.cf_model.specs.Own.{present_of}
use Rattle.cf_model.specs.Deals.{Deal, answering, okay, with_used, thing_deal, with_thing, with_filter, change_unless_skipped, change_deal, with_item, thread_in, place_in, holds_at, held_at, stays_in_one, is_elsewhere, places_added, places_dropped, entering, leaving, add_deal, drop_deal, common_items, common_deal, signal_deal, every_place, invalidate_deal, woken_by, wake_flags, wake_parts, stop_deal, observe_deal, forget_deal, deal_of}
use Rattle.cf_model.specs.Steps.{Step, retain_step, release_step, statement_step, claim_step, pack_step, packed_holder, start_all, spend_if, fire, fire_if, close_step, with_sleep, bindings_of, depth_of, step_of, frames_at, demanded, stand_after, stopped_at, acted, done_by}
use Rattle.cf_model.specs.Journals.{can_go, after_action, state_from, After, tick_flags}
use Rattle.cf_model.specs.Serial.{round, picked, moved_by, pointer_after, pointer_of}
use Rattle.cf_model.specs.Bounds.{NumbersOfLists}
use Rattle.cf_model.proofs.FrameOrder.{fit_at, block_fits}
use Rattle.cf_model.proofs.Phases.{phase_case}
use Rattle.cf_model.proofs.Tokens.{at_own, at_other}
use Rattle.cf_model.proofs.Views.{FrameView, StandView, WorkView, stand_view, of_work, of_frame, is_line, is_call, is_end, is_return, is_phase, is_close, first_owes, first_spends, first_drops}

-- ---- lists with a default

pub at_past : {A : Type 0} (a : A) (n : ℕ) (xs : List A) → length xs ≤ n → at_or a n xs ≡ a
at_past a n [] h = refl
at_past a zero (x ∷ xs) h = absurd (omega (arith, h))
at_past a (suc n) (x ∷ xs) h = at_past a n xs (omega (arith, h))

pub length-with_at : {A : Type 0} (a : A) (n : ℕ) (y : A) (xs : List A) → n < length xs
    → length (with_at a n y xs) ≡ length xs
length-with_at a n y [] h = absurd (omega (arith, h))
length-with_at a zero y (x ∷ xs) h = refl
length-with_at a (suc n) y (x ∷ xs) h = ap suc (length-with_at a n y xs (omega (arith, h)))

longer-with_at : {A : Type 0} (a : A) (n : ℕ) (y : A) (xs : List A) → length xs ≤ length (with_at a n y xs)
longer-with_at a n y [] = omega arith
longer-with_at a zero y (x ∷ xs) = omega arith
longer-with_at a (suc n) y (x ∷ xs) = omega (arith, longer-with_at a n y xs)

-- ---- flags

abbrev pub IsStarted : List Flags → ℕ → Type 0
IsStarted fs t = (flags_at t fs).is_started ≡ true

-- flags that are as many or more, and none of which stops being started
record FlagsStay (may : Type 0) (before after : List Flags) : Type 0 where
  least : length before ≤ length after
  same : may → length after ≡ length before
  started : (t : ℕ) → IsStarted before t → IsStarted after t

flags_same : (may : Type 0) (fs : List Flags) → FlagsStay may fs fs
flags_same may fs = record { least = omega arith; same = λ m. refl; started = λ t h. h }

flags_set : (may : Type 0) (u : ℕ) (f : Flags) (fs : List Flags) → f.is_started ≡ (flags_at u fs).is_started
    → (may → u < length fs) → FlagsStay may fs (with_flags u f fs)
flags_set may u f fs same there = record {
  least = longer-with_at (flags_of false) u f fs;
  same = λ m. length-with_at (flags_of false) u f fs (there m);
  started = λ t h. elim (eqb_tells t u) [
    | inl e ↦ subst (IsStarted (with_flags u f fs)) (sym e.1)
        (ap (λ (g : Flags). g.is_started) (at_own (flags_of false) u f fs) ∙ same ∙ subst (IsStarted fs) e.1 h)
    | inr e ↦ ap (λ (g : Flags). g.is_started) (at_other (flags_of false) t u f fs e.1) ∙ h
  ];
}

pub start_each : (fs : List Flags) (t : ℕ) → t < length fs → IsStarted (start_all fs) t
start_each [] t h = absurd (omega (arith, h))
start_each (f ∷ fs) zero h = refl
start_each (f ∷ fs) (suc t) h = start_each fs t (omega (arith, h))

stays_started : (fs : List Flags) (t : ℕ) → IsStarted fs t → IsStarted (start_all fs) t
stays_started [] t h = h
stays_started (f ∷ fs) zero h = refl
stays_started (f ∷ fs) (suc t) h = stays_started fs t h

stays_ticked : (time : ℕ) (fs : List Flags) (t : ℕ) → IsStarted fs t → IsStarted (map (tick_flags time) fs) t
stays_ticked time [] t h = h
stays_ticked time (f ∷ fs) zero h = h
stays_ticked time (f ∷ fs) (suc t) h = stays_ticked time fs t h

woken_started : (f : Flags) (sleep : Sleeping) → (woken_by f sleep).is_started ≡ f.is_started
woken_started f awake = refl
woken_started f (until d) = refl

-- ---- what a step does to flags, and whom it stops

abbrev StopsIn : ℕ → Option ℕ → Type 0
StopsIn n None = Unit {0}
StopsIn n (Some u) = u < n

record Reaches (may : Type 0) (st : State) (p : Parts) (stopped : Option ℕ) : Type 0 where
  flags : FlagsStay may st.parts.flags p.flags
  stops : StopsIn (length st.stands) stopped

quiet : (may : Type 0) (st : State) (p : Parts) → p.flags ≡ st.parts.flags → Reaches may st p None
quiet may st p e = record {
  flags = subst (FlagsStay may st.parts.flags) (sym e) (flags_same may st.parts.flags);
  stops = tt;
}

-- the thread that a line wakes
abbrev woken_in : ℕ → BlockLine → Option ℕ
woken_in t (says (forms.Wake u)) = thread_in t u
woken_in t (says (forms.Stop u)) = thread_in t u
woken_in t _ = None

-- a thread that a line wakes has flags
abbrev MayWake : ℕ → State → BlockLine → Type 0
MayWake t st x = (u : ℕ) → woken_in t x ≡ Some u → u < length st.parts.flags

-- a thread whose stand has a frame or work is there
pub acts_there : (t : ℕ) (ss : List Stand) → (stand_at t ss ≡ blank → ⊥) → t < length ss
acts_there t ss h = elim (cases_lt t (length ss)) [ inl e ↦ e | inr e ↦ absurd (h (at_past blank t ss e)) ]

runs_there : (u : ℕ) (ss : List Stand) → has_run (stand_at u ss).frames ≡ true → u < length ss
runs_there u ss e = acts_there u ss (λ q. none (ap (λ (s : Stand). has_run s.frames) (sym q) ∙ e))
  where
    none : false ≡ true → ⊥
    none e = cc

module _ (may : Type 0) (st : State) where
  abbrev Fits : Deal → Type 0
  Fits deal = Reaches may st deal.parts deal.stops

  fits_answer : (a : Answer) → Fits (answering st.parts a)
  fits_answer a = quiet may st st.parts refl

  fits_used : (used : Option ℕ) (deal : ℕ → Deal) → ((i : ℕ) → used ≡ Some i → Fits (deal i))
      → Fits (with_used st.parts used deal)
  fits_used None deal h = fits_answer answers.Skip
  fits_used (Some i) deal h = h i refl

  fits_thing : (used : Option ℕ) (deal : ℕ → Thing → Deal) → ((i : ℕ) (x : Thing) → Fits (deal i x))
      → Fits (with_thing st.parts used deal)
  fits_thing None deal h = fits_answer answers.Skip
  fits_thing (Some i) deal h = by (thing_at st.parts i)
    where
      by : (x : Option Thing) → Fits (thing_deal st.parts i deal x)
      by None = fits_answer answers.Skip
      by (Some x) = h i x

  fits_filter : (v object : Option ℕ) (deal : Option ℕ → Deal) → ((q : Option ℕ) → Fits (deal q))
      → Fits (with_filter st.parts v object deal)
  fits_filter None object deal h = h None
  fits_filter (Some v) object deal h = fits_used object (λ q. deal (Some q)) (λ q e. h (Some q))

  fits_either : (b : Bool) (x y : Deal) → Fits x → Fits y → Fits (cond b x y)
  fits_either true x y h k = h
  fits_either false x y h k = k

  fits_signal : (i : ℕ) (valid : Bool) (item : Item) → Fits (signal_deal st.parts i valid item)
  fits_signal i true (source_item order on) = quiet may st _ refl
  fits_signal i false (source_item order on) = fits_answer answers.Invalid
  fits_signal i valid _ = fits_answer answers.Skip

  fits_invalidate : (s : Script) (i : ℕ) (x : Thing) → Fits (invalidate_deal s st i x)
  fits_invalidate s i x =
      fits_either x.valid
      (leaving (with_item st.parts i false x.item) (present_of (every_place s i st.edges) st.edges))
      (answering st.parts answers.Invalid) (quiet may st _ refl) (fits_answer answers.Invalid)

  fits_change : (answer : Answer) (b : Option ℕ) (change : Change) → Fits (change_deal st.parts answer b change)
  fits_change answer None change = fits_answer answer
  fits_change answer (Some b) change = quiet may st _ refl

  wakes : (u : ℕ) → (may → u < length st.parts.flags) → FlagsStay may st.parts.flags (wake_parts st.parts u).flags
  wakes u there =
      let f = flags_at u st.parts.flags in
      flags_set may u (wake_flags f) st.parts.flags (woken_started f f.sleep) there

  fits_stop : (u : ℕ) → (may → u < length st.parts.flags) → Fits (stop_deal st u)
  fits_stop u there = by (has_run (stand_at u st.stands).frames) refl
    where
      by : (b : Bool) → has_run (stand_at u st.stands).frames ≡ b
          → Fits (cond b (record (okay (wake_parts st.parts u)) { stops = Some u }) (answering st.parts answers.Idle))
      by true e = record { flags = wakes u there; stops = runs_there u st.stands e }
      by false e = fits_answer answers.Idle

  module _ (s : Script) (t : ℕ) where
    fits_add : (u : ℕ) (p : Place) (i : ℕ) (x : Thing) → Fits (add_deal s st u p i x)
    fits_add u p i x =
        fits_either (not x.valid) (answering st.parts answers.Invalid) _ (fits_answer answers.Invalid)
        (fits_either (stays_in_one (kind_of x.item) && is_elsewhere s u i st.edges)
        (answering st.parts answers.Elsewhere) _
        (fits_answer answers.Elsewhere)
        (fits_either (holds_at u i st.edges p) (answering st.parts answers.Present)
        (entering st.parts (held_at u i (places_added s u i st p))) (fits_answer answers.Present)
        (quiet may st _ refl)))

    fits_drop : (u : ℕ) (p : Place) (i : ℕ) → Fits (drop_deal s st u p i)
    fits_drop u p i =
        fits_either (holds_at u i st.edges p)
        (leaving st.parts (present_of (held_at u i (places_dropped s u i st p)) st.edges))
        (answering st.parts answers.Absent) (quiet may st _ refl) (fits_answer answers.Absent)

    fits_common : (u m : ℕ) → Fits (common_deal st u m)
    fits_common u m = by (is_common u st.parts.commons m)
      where
        by : (b : Bool) → Fits (cond b (answering st.parts answers.Present) (record (okay st.parts) {
          parts = record st.parts { commons = record { thread = u; mode = m } ∷ st.parts.commons };
          enters = map (held_by (in_mode u m)) (items_gained (λ i. has (in_mode u m) i st.edges) (common_items st u));
        }))
        by true = fits_answer answers.Present
        by false = quiet may st _ refl

    fits_deal : (x : Statement) (used : List (Option ℕ)) → (may → MayWake t st (says x)) → Fits (deal_of s t st x used)
    fits_deal (forms.Add v u m) used there =
        fits_thing (first_of used) (λ i x. with_used st.parts (thread_in t u) (λ w. add_deal s st w (place_in m) i x))
        (λ i x. fits_used (thread_in t u) (λ w. add_deal s st w (place_in m) i x) (λ w e. fits_add w (place_in m) i x))
    fits_deal (forms.Drop v u m) used there =
        fits_thing (first_of used) (λ i x. with_used st.parts (thread_in t u) (λ w. drop_deal s st w (place_in m) i))
        (λ i x. fits_used (thread_in t u) (λ w. drop_deal s st w (place_in m) i) (λ w e. fits_drop w (place_in m) i))
    fits_deal (forms.Common u m) used there =
        fits_used (thread_in t u) (λ w. common_deal st w m) (λ w e. fits_common w m)
    fits_deal (forms.Signal v) used there =
        fits_thing (first_of used) (λ i x. signal_deal st.parts i x.valid x.item) (λ i x. fits_signal i x.valid x.item)
    fits_deal (forms.Invalidate v) used there =
        fits_thing (first_of used) (invalidate_deal s st) (λ i x. fits_invalidate s i x)
    fits_deal (forms.Wake u) used there =
        fits_used (thread_in t u) (λ w. okay (wake_parts st.parts w))
        (λ w e. record { flags = wakes w (λ m. there m w e); stops = tt })
    fits_deal (forms.Stop u) used there =
        fits_used (thread_in t u) (stop_deal st) (λ w e. fits_stop w (λ m. there m w e))
    fits_deal (forms.Run m limit once) used there = quiet may st _ refl
    fits_deal (forms.Observe v k name x) used there =
        fits_used (first_of used) (λ q. with_filter st.parts x (used_at used 1) (observe_deal st.parts k name q))
        (λ q e. fits_filter x (used_at used 1) (observe_deal st.parts k name q) (λ z. quiet may st _ refl))
    fits_deal (forms.Forget v name x) used there =
        fits_used (first_of used) (λ q. with_filter st.parts x (used_at used 1) (forget_deal st.parts name q))
        (λ q e. fits_filter x (used_at used 1) (forget_deal st.parts name q) (λ z. quiet may st _ refl))
    fits_deal (forms.Post name info) used there = quiet may st _ refl
    fits_deal x used there =
        let deed = deed_at s.classes st.parts.objects x used in
        fits_change deed.answer (first_of used) (change_unless_skipped deed.answer deed.change)

-- a thread that a demand wakes, or that a demand puts to sleep, has flags
abbrev MayReach : ℕ → State → Demand → Type 0
MayReach t st (does x) = MayWake t st x
MayReach t st _ = t < length st.parts.flags

module _ (s : Script) (t : ℕ) (st : State) where
  abbrev ReachesBy : Type 0 → Step → Type 0
  ReachesBy may step = Reaches may st step.parts step.stops

  reach_statement : (d : ℕ) (x : Statement) (used : List (Option ℕ)) (ownership : Ownership)
      → ReachesBy (MayWake t st (says x)) (statement_step s t d st x used ownership)
  reach_statement d x used Keeps = fits_deal (MayWake t st (says x)) st s t x used (λ m. m)
  reach_statement d x used (Binds v) = quiet (MayWake t st (says x)) st _ refl
  reach_statement d x used (Retains v) = by (first_of used)
    where
      by : (q : Option ℕ) → ReachesBy (MayWake t st (says x)) (retain_step (variable t d v) st q)
      by None = quiet (MayWake t st (says x)) st _ refl
      by (Some o) = quiet (MayWake t st (says x)) st _ refl
  reach_statement d x used (Releases v) = by (first_of used)
    where
      by : (q : Option ℕ) → ReachesBy (MayWake t st (says x)) (release_step t (variable t d v) st q)
      by None = quiet (MayWake t st (says x)) st _ refl
      by (Some o) = quiet (MayWake t st (says x)) st _ refl

  reach_line : (fs : List Frame) (x : BlockLine) → ReachesBy (MayWake t st x) (step_of s t st fs (does x))
  reach_line fs (begins v) = quiet (MayWake t st (begins v)) st _ refl
  reach_line fs (claims k v) = by (first_held (parcel t k) st.edges)
    where
      by : (q : Option ℕ)
          → ReachesBy (MayWake t st (claims k v)) (claim_step st (parcel t k) q (variable t (depth_of fs) v))
      by None = quiet (MayWake t st (claims k v)) st _ refl
      by (Some o) = quiet (MayWake t st (claims k v)) st _ refl
  reach_line fs (packs u k v) = by (object_at (bindings_of fs) v)
    where
      by : (q : Option ℕ)
          → ReachesBy (MayWake t st (packs u k v)) (pack_step t st (packed_holder t (depth_of fs) v) q (parcel u k))
      by None = quiet (MayWake t st (packs u k v)) st _ refl
      by (Some o) = quiet (MayWake t st (packs u k v)) st _ refl
  reach_line fs (says x) = reach_statement (depth_of fs) x (used_objects (bindings_of fs) (says x)) (ownership_of x)

  abbrev Here : Type 0
  Here = t < length st.parts.flags

  reach_end : (b : Bool)
      → Reaches Here st (cond b (record st.parts { flags = start_all st.parts.flags }) st.parts) None
  reach_end false = quiet Here st _ refl
  reach_end true = record {
    flags = record {
      least = omega (arith, length-map st.parts.flags (λ (f : Flags). record f { is_started = true }));
      same = λ m. length-map st.parts.flags (λ (f : Flags). record f { is_started = true });
      started = stays_started st.parts.flags;
    };
    stops = tt;
  }

  reach_spend : (i : ℕ) (x : Option Thing) → Fits Here st (spend_if s st i x)
  reach_spend i None = quiet Here st _ refl
  reach_spend i (Some x) =
      fits_either Here st x.valid (invalidate_deal s st i x) (okay st.parts) (fits_invalidate Here st s i x)
      (quiet Here st _ refl)

  reach_fire : (item : Option ℕ) → Reaches Here st (fire_if st.parts item) None
  reach_fire None = quiet Here st _ refl
  reach_fire (Some i) = by (thing_at st.parts i)
    where
      by : (x : Option Thing) → Reaches Here st (fire st.parts i x) None
      by None = quiet Here st _ refl
      by (Some x) = quiet Here st _ refl

  reach_close : (k : Kind) → ReachesBy Here (close_step st k)
  reach_close of_block = quiet Here st _ refl
  reach_close (of_handler k) = quiet Here st _ refl
  reach_close (of_run r) = quiet Here st _ refl

  reach_sleep : (sleep : Sleeping) → Reaches Here st (with_sleep st.parts t sleep) None
  reach_sleep sleep = record { flags = flags_set Here t _ st.parts.flags refl (λ m. m); stops = tt }

  reach_demand : (fs : List Frame) (d : Demand) → ReachesBy (MayReach t st d) (step_of s t st fs d)
  reach_demand fs (does x) = reach_line fs x
  reach_demand fs ends = reach_end (t == 0)
  reach_demand fs returns = quiet Here st _ refl
  reach_demand fs (owes p) = quiet Here st _ refl
  reach_demand fs (spends i) = reach_spend i (thing_at st.parts i)
  reach_demand fs (drops b k p) = quiet Here st _ refl
  reach_demand fs (calls k c) = reach_fire (item_of k)
  reach_demand fs (enters p) =
      phase_case (ReachesBy Here) st t p (top_kind fs) (record {
        woken = reach_sleep awake;
        due = quiet Here st _ refl;
        sleeps = λ d. reach_sleep (until d);
        tests = λ r. quiet Here st _ refl;
        collects = λ l. quiet Here st _ refl;
      })
  reach_demand fs closes = reach_close (top_kind fs)

-- ---- stands

none_demanded : (s : Script) (st : State) (t : ℕ) (d : Demand) → demanded s st t ≡ Some d
    → stand_at t st.stands ≡ blank → ⊥
none_demanded s st t d e q = none (ap (demand s (facts_of st) t) (sym q) ∙ e)
  where
    none : ◌≡◌ {A = Option Demand} None (Some d) → ⊥
    none e = cc

pub demander_there : (s : Script) (st : State) (t : ℕ) (d : Demand) → demanded s st t ≡ Some d → t < length st.stands
demander_there s st t d e = acts_there t st.stands (none_demanded s st t d e)

stopped_length : (stops : Option ℕ) (ss : List Stand) → StopsIn (length ss) stops
    → length (stopped_at stops ss) ≡ length ss
stopped_length None ss h = refl
stopped_length (Some u) ss h = length-with_at blank u (stop_stand (stand_at u ss)) ss h

done_length : (s : Script) (t : ℕ) (st : State) (d : Demand) → demanded s st t ≡ Some d
    → length (done_by s t st d).stands ≡ length st.stands
done_length s t st d e =
    let step = step_of s t st (frames_at t st) d in
    let new = stand_after t d step st in
    let moved : length (with_stand t new st.stands) ≡ length st.stands = length-with_at blank t new st.stands
    (demander_there s st t d e) in
    stopped_length step.stops (with_stand t new st.stands)
    (subst (λ (n : ℕ). StopsIn n step.stops) (sym moved) (reach_demand s t st (frames_at t st) d).stops) ∙ moved

acted_length : (s : Script) (t : ℕ) (st : State) (d : Option Demand) → demanded s st t ≡ d
    → length (acted s t st d).stands ≡ length st.stands
acted_length s t st None e = refl
acted_length s t st (Some d) e = done_length s t st d e

pub stands_length : (s : Script) (t : ℕ) (st : State) (a : Action)
    → length (after_action s t st a).stands ≡ length st.stands
stands_length s t st (actions.Tick n) = refl
stands_length s t st actions.Stall = refl
stands_length s t st a = acted_length s t st (demanded s st t) refl

stands_from : (s : Script) (st : State) (es : List Entry) → length (state_from s st es).stands ≡ length st.stands
stands_from s st [] = refl
stands_from s st (e ∷ es) =
    stands_from s (after_action s e.thread st e.action) es ∙ stands_length s e.thread st e.action

pub stands_of_threads : (s : Script) (es : List Entry) → length (After s es).stands ≡ s.thread_count
stands_of_threads s es = stands_from s (start s) es ∙ length-map-range_with_len opening_stand 0 s.thread_count

-- ---- flags

-- a thread that a line of an owned script wakes is one of the script
module _ (s : Script) (earlier : List BlockLine) (t : ℕ) (here : t < s.thread_count) where
  below : (v : ℕ) (b : Bool) → ltb v s.thread_count ≡ b → cond b None (Some Undefined) ≡ None → v < s.thread_count
  below v true q h = ltb-true v s.thread_count q
  below v false q h = absurd cc

  named_there : (u : ThreadWord) (w : ℕ) → or_else (place_fault s earlier (thread_mention u)) None ≡ None
      → thread_in t u ≡ Some w → w < s.thread_count
  named_there Own w h e = let same : t ≡ w = cc in subst (λ (n : ℕ). n < s.thread_count) same here
  named_there (Named None) w h e = absurd cc
  named_there (Named (Some v)) w h e =
      let same : v ≡ w = cc in
      subst (λ (n : ℕ). n < s.thread_count) same
      (below v (ltb v s.thread_count) refl (none_first (thread_fault s (Some v)) None h).0)

  line_there : (x : BlockLine) → line_fault s earlier x ≡ None → (w : ℕ) → woken_in t x ≡ Some w → w < s.thread_count
  line_there (says (forms.Wake u)) h w e = named_there u w h e
  line_there (says (forms.Stop u)) h w e = named_there u w h e
  line_there x h w e = absurd cc

module _ (c : Script) (t : ℕ) (st : State) (own : FitsByBlock c) (flags : length st.parts.flags ≡ c.thread_count)
    (here : t < c.thread_count) where
  has_flags : t < length st.parts.flags
  has_flags = omega (arith, flags, here)

  line_reaches : (f : Frame) (x : BlockLine) → slice_get (frame_lines c f.kind f.block) f.number ≡ Some x
      → MayWake t st x
  line_reaches f x at w e =
      let lines = frame_lines c f.kind f.block in
      let fit = fit_at c [] lines f.number x (block_fits c f.kind f.block own) at in
      omega (arith, flags, line_there c (take f.number lines) t here x fit w e)

  frame_reaches : (f : Frame) (d : Demand) → FrameView c (facts_of st) t f d → MayReach t st d
  frame_reaches f _ (is_call k called found) = has_flags
  frame_reaches f _ (is_line x at) = line_reaches f x at
  frame_reaches f _ (is_end e) = has_flags
  frame_reaches f _ (is_return k e end) = has_flags
  frame_reaches f _ (is_phase r p e) = has_flags
  frame_reaches f _ (is_close r e) = has_flags

  work_reaches : (d : Demand) → WorkView (facts_of st) (stand_at t st.stands).work d → MayReach t st d
  work_reaches _ (first_owes o first) = has_flags
  work_reaches _ (first_spends i first) = has_flags
  work_reaches _ (first_drops b k o left first) = has_flags

  demand_reaches : (d : Demand) → StandView c (facts_of st) t (stand_at t st.stands) d → MayReach t st d
  demand_reaches d (of_work w view) = work_reaches d view
  demand_reaches d (of_frame f fs idle e view) = frame_reaches f d view

pub record AreNumbered (c : Script) (st : State) : Type 0 where
  pub flags : length st.parts.flags ≡ c.thread_count
  pub stands : length st.stands ≡ c.thread_count

acted_flags : (c : Script) (t : ℕ) (st : State) (d : Option Demand) → FitsByBlock c → AreNumbered c st
    → demanded c st t ≡ d
    → length (acted c t st d).parts.flags ≡ c.thread_count
acted_flags c t st None own h e = h.flags
acted_flags c t st (Some d) own h e =
    let here : t < c.thread_count = omega (arith, demander_there c st t d e, h.stands) in
    let may = demand_reaches c t st own h.flags here d (stand_view c (facts_of st) t (stand_at t st.stands) d e) in
    (reach_demand c t st (frames_at t st) d).flags.same may ∙ h.flags

entry_flags : (c : Script) (t : ℕ) (st : State) (a : Action) → FitsByBlock c → AreNumbered c st
    → length (after_action c t st a).parts.flags ≡ c.thread_count
entry_flags c t st (actions.Tick n) own h = length-map st.parts.flags (tick_flags n) ∙ h.flags
entry_flags c t st actions.Stall own h = h.flags
entry_flags c t st a own h = acted_flags c t st (demanded c st t) own h refl

entry_numbered : (c : Script) (t : ℕ) (st : State) (a : Action) → FitsByBlock c → AreNumbered c st
    → AreNumbered c (after_action c t st a)
entry_numbered c t st a own h =
    record { flags = entry_flags c t st a own h; stands = stands_length c t st a ∙ h.stands }

numbered_from : (c : Script) (st : State) (es : List Entry) → FitsByBlock c → AreNumbered c st
    → AreNumbered c (state_from c st es)
numbered_from c st [] own h = h
numbered_from c st (e ∷ es) own h =
    numbered_from c (after_action c e.thread st e.action) es own (entry_numbered c e.thread st e.action own h)

pub start_flags : (c : Script) → length (start c).parts.flags ≡ c.thread_count
start_flags c = length-map-range_with_len (λ t. flags_of (t == 0)) 0 c.thread_count

pub numbered_along : (c : Script) (es : List Entry) → FitsByBlock c → AreNumbered c (After c es)
numbered_along c es own =
    numbered_from c (start c) es own
    (record { flags = start_flags c; stands = length-map-range_with_len opening_stand 0 c.thread_count })

-- of every script there are as many flags or more, and a thread that is started stays so
pub record FlagsLast (before after : List Flags) : Type 0 where
  pub least : length before ≤ length after
  pub started : (t : ℕ) → IsStarted before t → IsStarted after t

acted_last : (s : Script) (t : ℕ) (st : State) (d : Option Demand)
    → FlagsLast st.parts.flags (acted s t st d).parts.flags
acted_last s t st None = record { least = omega arith; started = λ u h. h }
acted_last s t st (Some d) =
    let fits = (reach_demand s t st (frames_at t st) d).flags in record { least = fits.least; started = fits.started }

pub entry_last : (s : Script) (t : ℕ) (st : State) (a : Action)
    → FlagsLast st.parts.flags (after_action s t st a).parts.flags
entry_last s t st (actions.Tick n) =
    record { least = omega (arith, length-map st.parts.flags (tick_flags n)); started = stays_ticked n st.parts.flags }
entry_last s t st actions.Stall = record { least = omega arith; started = λ u h. h }
entry_last s t st a = acted_last s t st (demanded s st t)

least_from : (s : Script) (st : State) (es : List Entry)
    → length st.parts.flags ≤ length (state_from s st es).parts.flags
least_from s st [] = omega arith
least_from s st (e ∷ es) =
    omega (arith, (entry_last s e.thread st e.action).least, least_from s (after_action s e.thread st e.action) es)

pub flags_least : (s : Script) (es : List Entry) → s.thread_count ≤ length (After s es).parts.flags
flags_least s es = omega (arith, start_flags s, least_from s (start s) es)

-- ---- the pointer

abbrev pub AllIn : (ℕ → Type 0) → List ℕ → Type 0
AllIn P [] = Unit {0}
AllIn P (x ∷ xs) = P x × AllIn P xs

pub all_range : (P : ℕ → Type 0) (a n : ℕ) → ((k : ℕ) → a ≤ k → k < a + n → P k) → AllIn P (range_with_len a n)
all_range P a zero h = tt
all_range P a (suc n) h = (
  h a (omega arith) (omega arith),
  all_range P (a + 1) n
      (λ k from to. h k (omega (arith, from)) (omega (arith, to))),
)

pub all_append : (P : ℕ → Type 0) (xs ys : List ℕ) → AllIn P xs → AllIn P ys → AllIn P (xs ++ ys)
all_append P [] ys h k = k
all_append P (x ∷ xs) ys h k = (h.0, all_append P xs ys h.1 k)

-- what is found passes the test, and is in the list
pub find_is : (P : ℕ → Type 0) (p : ℕ → Bool) (xs : List ℕ) (n : ℕ) → AllIn P xs → find p xs ≡ Some n
    → P n × (p n ≡ true)
find_is P p [] n h e = absurd cc
find_is P p (x ∷ xs) n h e = by (p x) refl e (find_is P p xs n h.1)
  where
    by : (b : Bool) → p x ≡ b → cond b (Some x) (find p xs) ≡ Some n → (find p xs ≡ Some n → P n × (p n ≡ true))
        → P n × (p n ≡ true)
    by true q e rest = let same : x ≡ n = cc in (subst P same h.0, subst (λ (m : ℕ). p m ≡ true) same q)
    by false q e rest = rest e

pub round_within : (count pointer : ℕ) → pointer ≤ count → AllIn (λ t. t < count) (round count pointer)
round_within count pointer most =
    all_append (λ t. t < count) (range_with_len pointer (count - pointer)) (range_with_len 0 pointer)
    (all_range (λ t. t < count) pointer (count - pointer) (λ k from to. omega (arith, most, to)))
    (all_range (λ t. t < count) 0 pointer (λ k from to. omega (arith, most, to)))

pub picked_is : (s : Script) (st : State) (pointer t : ℕ) → pointer ≤ s.thread_count → picked s st pointer ≡ Some t
    → (t < s.thread_count) × (can_go st t ≡ true)
picked_is s st pointer t most e =
    find_is (λ u. u < s.thread_count) (can_go st) (round s.thread_count pointer) t
    (round_within s.thread_count pointer most) e

moved_most : (s : Script) (st : State) (pointer : ℕ) (next : Option ℕ) → pointer ≤ s.thread_count
    → picked s st pointer ≡ next
    → moved_by pointer next ≤ s.thread_count
moved_most s st pointer None most e = most
moved_most s st pointer (Some t) most e = omega (arith, (picked_is s st pointer t most e).0)

pointer_from : (s : Script) (st : State) (pointer : ℕ) (es : List Entry) → pointer ≤ s.thread_count
    → pointer_after s st pointer es ≤ s.thread_count
pointer_from s st pointer [] most = most
pointer_from s st pointer (e ∷ es) most =
    pointer_from s (after_action s e.thread st e.action) (moved_by pointer (picked s st pointer)) es
    (moved_most s st pointer (picked s st pointer) most refl)

pub pointer_most : (s : Script) (es : List Entry) → pointer_of s es ≤ s.thread_count
pointer_most s es = pointer_from s (start s) 0 es (omega arith)

pub are_numbered : (s : Script) (es : List Entry) → NumbersOfLists s es
are_numbered s es = record {
  stands = stands_of_threads s es;
  flags = λ own. (numbered_along s es (owned_fits s own)).flags;
  some = flags_least s es;
  pointer = pointer_most s es;
}
