-- Along every legal journal of every script: what was collected as an observer is one.
use Rattle.std.proofs.Common.{◌≡◌, ℕ, ℤ, zero, suc, ◌+◌, Bool, true, false, cond, ◌&&◌, ◌||◌, List, [], ◌∷◌, ◌++◌, map, drop, length, Option, Some, None, eqb, refl, sym, ap, ◌∙◌, subst, inl, inr}
use Rattle.std.specs.Prelude.{filter, find, flat_map, is_some}
use Rattle.std.specs.List.{range_with_len}
use Rattle.std.specs.Option.{option_map_or}
use Rattle.std.proofs.lemmas.Bool.Decides.{eqb_tells}
use Rattle.cf_ids.specs.declared.answer.Answer.{Answer}
use Rattle.cf_ids.specs.declared.answer.Answer.TheVariants as answers
use Rattle.rl_base.specs.Dates.{has_come, earlier}
use Rattle.rl_base.specs.declared.observers.ObserverState.{ObserverState}
use Rattle.rl_base.specs.Activities.{has_activity, is_matching, matching_observers, observer_order}
use Rattle.rl_base.specs.Ranks.{comes_by, put_by, sorted_by}
use Rattle.rl_turn.specs.declared.phases.Phase.{Phase}
use Rattle.rl_turn.specs.declared.phases.Phase.TheVariants as phases
use Rattle.cf_syntax.specs.declared.script.Script.{Script}
use Rattle.cf_syntax.specs.declared.statement.Statement.TheVariants as forms
use Rattle.cf_syntax.specs.BlockLines.{BlockLine, says}
use Rattle.cf_contents.specs.Items.{Item, source_item, timer_item, observer_item}
use Rattle.cf_next.specs.declared.action.Action.{Action}
use Rattle.cf_next.specs.declared.action.Action.TheVariants as actions
use Rattle.cf_next.specs.Facts.{Facts}
use Rattle.cf_next.specs.Stands.{Role, as_observer, as_source, as_timer, as_receiver, Callee, callee, Binding, Kind, of_block, of_handler, of_run, Frame, Stand, opening_stand, stop_frames, stop_stand}
use Rattle.cf_next.specs.Turns.{role_at}
use Rattle.cf_next.specs.Demands.{Demand, does, ends, returns, owes, spends, drops, calls, enters, closes, callout_of, callees_left}
use Rattle.cf_next.specs.Advance.{top_kind, frames_after, is_entered, is_post, line_done, on_top, receivers_in, run_frames}
use Rattle.cf_model.specs.declared.entry.Entry.{Entry}
use Rattle.cf_model.specs.Known.{facts_of}
use Rattle.cf_model.specs.State.{Parts, State, start, awake, until, flags_at, blank, is_made, stand_at, with_stand}
use Rattle.cf_model.specs.Things.{Thing, thing_at, observer_in, observer_of, observers_of, items_in, mode_date}
use Rattle.cf_model.specs.Steps.{Step, acted, demanded, done_by, frames_at, step_of, step_answer, stand_after, stopped_at, phase_step, idle, sleeping, unwoken_step}
use Rattle.cf_model.specs.Journals.{after_action, IsLegalEntry}
use Rattle.cf_model.proofs.Tokens.{at_other, at_own, frame}
use Rattle.cf_history.specs.History.{is_source_form, is_item_form, makes_source, makes_item, binds}
use Rattle.cf_history.proofs.ItemLaws.{is_source_item, is_source_thing, Tells, thing_made}
use Rattle.cf_history.proofs.Along.{entry_tells}
use Rattle.cf_history.proofs.RunViews.{AllOf}

-- the number is of an item that is an observer
abbrev pub IsObserver : Parts → ℕ → Type 0
IsObserver p n = (is_some (thing_at p n) ≡ true) × (is_source_thing (thing_at p n) ≡ false)

-- what was collected as an observer is one
abbrev pub IsInRole : Parts → Callee → Type 0
IsInRole p k = k.role ≡ as_observer → IsObserver p k.number

abbrev pub InRoles : Parts → List Frame → Type 0
InRoles p [] = Unit {0}
InRoles p (f ∷ fs) = AllOf (IsInRole p) f.collected × InRoles p fs

-- ---- what a note collects

abbrev AllAre : (ℕ → Type 0) → List ℕ → Type 0
AllAre P [] = Unit {0}
AllAre P (n ∷ ns) = P n × AllAre P ns

filter_are : (P : ℕ → Type 0) (test : ℕ → Bool) → ((n : ℕ) → test n ≡ true → P n) → (ns : List ℕ)
    → AllAre P (filter test ns)
filter_are P test h [] = tt
filter_are P test h (n ∷ ns) = by (test n) (h n) (filter_are P test h ns)
  where
    by : (b : Bool) → (b ≡ true → P n) → AllAre P (filter test ns)
        → AllAre P (cond b (n ∷ filter test ns) (filter test ns))
    by true k rest = (k refl, rest)
    by false k rest = rest

put_are : (P : ℕ → Type 0) (key : ℕ → ℤ) (n : ℕ) (ns : List ℕ) → P n → AllAre P ns → AllAre P (put_by key n ns)
put_are P key n [] h k = (h, tt)
put_are P key n (m ∷ ms) h k = by (comes_by key n m) (put_are P key n ms h k.1)
  where
    by : (b : Bool) → AllAre P (put_by key n ms) → AllAre P (cond b (n ∷ m ∷ ms) (m ∷ put_by key n ms))
    by true rest = (h, (k.0, k.1))
    by false rest = (k.0, rest)

sorted_are : (P : ℕ → Type 0) (key : ℕ → ℤ) (ns : List ℕ) → AllAre P ns → AllAre P (sorted_by key ns)
sorted_are P key [] h = tt
sorted_are P key (n ∷ ns) h = put_are P key n (sorted_by key ns) h.0 (sorted_are P key ns h.1)

abbrev with_number : ℕ → ObserverState → Bool
with_number n x = eqb x.number n

-- an object that is no observer is found under no number
found_after : (n i : ℕ) (x : Option Thing) (rest : List ObserverState) → (i ≡ n → observer_of i x ≡ [])
    → find (with_number n) (observer_of i x ++ rest) ≡ find (with_number n) rest
found_after n i None rest h = refl
found_after n i (Some x) rest h = by x.item h
  where
    by : (item : Item) → (i ≡ n → observer_in i x.valid item ≡ [])
        → find (with_number n) (observer_in i x.valid item ++ rest) ≡ find (with_number n) rest
    by (source_item order on) h = refl
    by (timer_item first interval date) h = refl
    by (observer_item mask repeats order) h = elim (eqb_tells i n) [
      | inl same ↦ absurd (none_is (h same.1))
      | inr apart ↦ ap (λ (b : Bool). cond b (Some (record { number = i; mask = mask; repeats = repeats; order = order; valid = x.valid })) (find (with_number n) rest)) apart.0
    ]
      where
        none_is : ◌≡◌ {A = List ObserverState}
            (record { number = i; mask = mask; repeats = repeats; order = order; valid = x.valid } ∷ []) []
            → ⊥
        none_is e = cc

none_found : (p : Parts) (n : ℕ) → observer_of n (thing_at p n) ≡ [] → (a k : ℕ)
    → find (with_number n) (flat_map (λ i. observer_of i (thing_at p i)) (range_with_len a k)) ≡ None
none_found p n h a zero = refl
none_found p n h a (suc k) =
    found_after n a (thing_at p a) (flat_map (λ i. observer_of i (thing_at p i)) (range_with_len (a + 1) k)) (λ e. subst (λ (m : ℕ). observer_of m (thing_at p m) ≡ []) (sym e) h)
    ∙ none_found p n h (a + 1) k

matching_is : (p : Parts) (a n : ℕ) → is_matching a (observers_of p) n ≡ true → IsObserver p n
matching_is p a n e = by (thing_at p n) refl
  where
    nothing : observer_of n (thing_at p n) ≡ [] → ⊥
    nothing none = not_true (ap (λ (x : Option ObserverState). option_map_or (λ y. y.valid && has_activity a y.mask) x false) (none_found p n none 0 (length p.objects)) ∙ refl)
      where
        not_true : is_matching a (observers_of p) n ≡ false → ⊥
        not_true q = differ (sym e ∙ q)
          where
            differ : true ≡ false → ⊥
            differ z = cc

    item : (x : Thing) (it : Item) → x.item ≡ it → thing_at p n ≡ Some x → IsObserver p n
    item x (source_item order on) q was = absurd (nothing (ap (observer_of n) was ∙ ap (observer_in n x.valid) q))
    item x (timer_item first interval date) q was = absurd (nothing (ap (observer_of n) was ∙ ap (observer_in n x.valid) q))
    item x (observer_item mask repeats order) q was = (ap is_some was, ap is_source_thing was ∙ ap is_source_item q)

    by : (x : Option Thing) → thing_at p n ≡ x → IsObserver p n
    by None was = absurd (nothing (ap (observer_of n) was))
    by (Some x) was = item x x.item refl was

-- ---- frames after a demand

module _ (q : Parts) where
  callees_are : (role : Role) (ns : List ℕ) → AllAre (IsObserver q) ns → AllOf (IsInRole q) (map (callee role) ns)
  callees_are role [] h = tt
  callees_are role (n ∷ ns) h = ((λ e. h.0), callees_are role ns h.1)

  callees_in : (role : Role) (ns : List ℕ) → (role ≡ as_observer → ⊥) → AllOf (IsInRole q) (map (callee role) ns)
  callees_in role [] h = tt
  callees_in role (n ∷ ns) h = ((λ e. absurd (h e)), callees_in role ns h)

  left_in : (facts : Facts) (t : ℕ) (kind : Kind) (ks : List Callee) → AllOf (IsInRole q) ks
      → AllOf (IsInRole q) (callees_left facts t kind ks)
  left_in facts t kind [] h = tt
  left_in facts t kind (k ∷ ks) h = by (is_some (callout_of facts t kind k.role k.number)) (left_in facts t kind ks h.1)
    where
      by : (b : Bool) → AllOf (IsInRole q) (callees_left facts t kind ks)
          → AllOf (IsInRole q) (cond b ks (callees_left facts t kind ks))
      by true rest = h.1
      by false rest = rest

  receivers_are_in : (x : BlockLine) (list : List ℕ) → AllOf (IsInRole q) (receivers_in x list)
  receivers_are_in x list = by (is_post x)
    where
      by : (b : Bool) → AllOf (IsInRole q) (cond b (map (callee as_receiver) list) [])
      by true = callees_in as_receiver list (λ e. cc)
      by false = tt

  run_frames_in : (time : ℕ) (x : BlockLine) (b : Bool) (fs : List Frame) → InRoles q fs
      → InRoles q (run_frames time x b ++ fs)
  run_frames_in time (says (forms.Run m limit once)) true fs h = (tt, h)
  run_frames_in time x b fs h = h

  top_in : (g : Frame → Frame) (fs : List Frame)
      → ((x : Frame) → AllOf (IsInRole q) x.collected → AllOf (IsInRole q) (g x).collected) → InRoles q fs
      → InRoles q (on_top g fs)
  top_in g [] h k = tt
  top_in g (f ∷ fs) h k = (h f k.0, k.1)

  drop_in : (fs : List Frame) → InRoles q fs → InRoles q (drop 1 fs)
  drop_in [] h = tt
  drop_in (f ∷ fs) h = h.1

  -- what a demand collects is in its role
  abbrev CollectsIn : Demand → List ℕ → Type 0
  CollectsIn (enters p) list = AllOf (IsInRole q) (map (callee (role_at p)) list)
  CollectsIn _ list = Unit {0}

  after_in : (facts : Facts) (t : ℕ) (d : Demand) (answer : Answer) (list : List ℕ) (fs : List Frame)
      → CollectsIn d list → InRoles q fs → InRoles q (frames_after facts t d answer list fs)
  after_in facts t (does x) answer list fs c h = run_frames_in facts.time x (is_entered answer) (on_top (line_done facts t x answer list) fs) (top_in (line_done facts t x answer list) fs (λ f k. receivers_are_in x list) h)
  after_in facts t ends answer list fs c h = h
  after_in facts t returns answer list fs c h = drop_in fs h
  after_in facts t (owes o) answer list fs c h = h
  after_in facts t (spends i) answer list fs c h = h
  after_in facts t (drops b j o) answer list fs c h = h
  after_in facts t (calls k e) answer list fs c h = (tt, top_in _ fs (λ f j. left_in facts t f.kind f.collected j) h)
  after_in facts t (enters p) answer list fs c h = top_in _ fs (λ f j. c) h
  after_in facts t closes answer list fs c h = drop_in fs h

  stop_in_by : (k : Kind) (b m : ℕ) (bs : List Binding) (cs : List Callee) (fs : List Frame)
      → InRoles q (frame k b m bs cs ∷ fs) → InRoles q (stop_frames fs)
      → InRoles q (stop_frames (frame k b m bs cs ∷ fs))
  stop_in_by of_block b m bs cs fs h rest = (h.0, rest)
  stop_in_by (of_handler k) b m bs cs fs h rest = (h.0, rest)
  stop_in_by (of_run r) b m bs cs fs h rest = (h.0, h.1)

  stop_in : (fs : List Frame) → InRoles q fs → InRoles q (stop_frames fs)
  stop_in [] h = tt
  stop_in (f ∷ fs) h = stop_in_by f.kind f.block f.number f.bindings f.collected fs h (stop_in fs h.1)

  put_in : (u : ℕ) (new : Stand) (ss : List Stand) → InRoles q new.frames → ((w : ℕ) → InRoles q (stand_at w ss).frames)
      → (w : ℕ) → InRoles q (stand_at w (with_stand u new ss)).frames
  put_in u new ss mine h w = elim (eqb_tells w u) [
    | inl e ↦ subst (λ (v : ℕ). InRoles q (stand_at v (with_stand u new ss)).frames) (sym e.1) (subst (λ (x : Stand). InRoles q x.frames) (sym (at_own blank u new ss)) mine)
    | inr e ↦ subst (λ (x : Stand). InRoles q x.frames) (sym (at_other blank w u new ss e.1)) (h w)
  ]

  stopped_in : (stops : Option ℕ) (ss : List Stand) → ((w : ℕ) → InRoles q (stand_at w ss).frames) → (w : ℕ)
      → InRoles q (stand_at w (stopped_at stops ss)).frames
  stopped_in None ss h w = h w
  stopped_in (Some u) ss h w = put_in u (stop_stand (stand_at u ss)) ss (stop_in (stand_at u ss).frames (h u)) h w

-- ---- a step

note_collects : (st : State) (t : ℕ) (p : Phase) (kind : Kind)
    → CollectsIn st.parts (enters p) (phase_step st t p kind).list
note_collects st t p of_block = tt
note_collects st t p (of_handler k) = tt
note_collects st t (phases.Note a) (of_run r) =
    callees_are st.parts as_observer (matching_observers a (observers_of st.parts) (items_in st t r.mode))
    (sorted_are (IsObserver st.parts) (observer_order (observers_of st.parts)) (filter (is_matching a (observers_of st.parts)) (items_in st t r.mode))
    (filter_are (IsObserver st.parts) (is_matching a (observers_of st.parts)) (matching_is st.parts a) (items_in st t r.mode)))
note_collects st t phases.Sources (of_run r) = callees_in st.parts as_source _ (λ e. cc)
note_collects st t phases.Timers (of_run r) = callees_in st.parts as_timer _ (λ e. cc)
note_collects st t phases.Sleep (of_run r) =
    let date = mode_date st t r.mode in
    let least = earlier r.deadline date in
    either (flags_at t st.parts.flags).is_woken (sleeping st t answers.Woken awake) (unwoken_step st t r) tt
    (either (has_come r.deadline st.parts.time || has_come date st.parts.time) (idle st answers.Due) (sleeping st t (answers.Asleep least) (until least)) tt tt)
  where
    either : (b : Bool) (x y : Step) → AllOf (IsInRole st.parts) (map (callee as_observer) x.list)
        → AllOf (IsInRole st.parts) (map (callee as_observer) y.list)
        → AllOf (IsInRole st.parts) (map (callee as_observer) (cond b x y).list)
    either true x y h k = h
    either false x y h k = k
note_collects st t phases.Test (of_run r) = tt
note_collects st t phases.Ran (of_run r) = tt

-- an item that is an observer stays one
source_is_item : (a : Action) → is_source_form a ≡ true → is_item_form a ≡ true
source_is_item (actions.MakeSource b n used) e = refl
source_is_item a e = absurd cc

still_observer : (s : Script) (n : ℕ) (e : Entry) (p q : Parts) → Tells s n e p q → IsObserver p n → IsObserver q n
still_observer s n e p q tells h =
    (tells.some ∙ ap (λ (b : Bool). b || makes_item n e) h.0, tells.source ∙ ap (λ (b : Bool). b || makes_source n e) h.1 ∙ no_source (makes_source n e) refl)
  where
    was_made : (x : Option Thing) → thing_at p n ≡ x → is_some x ≡ true → is_made p n ≡ true
    was_made None was some = absurd cc
    was_made (Some x) was some = thing_made p.objects n x was

    both : (a b : Bool) → (a && b) ≡ true → (a ≡ true) × (b ≡ true)
    both true true q = (refl, refl)
    both true false q = absurd cc
    both false b q = absurd cc

    true_false : (b : Bool) → b ≡ true → b ≡ false → ⊥
    true_false true e f = cc
    true_false false e f = cc

    no_source : (b : Bool) → makes_source n e ≡ b → b ≡ false
    no_source false q = refl
    no_source true q =
        let parts = both (is_source_form e.action) (binds n e) q in
        let makes : makes_item n e ≡ true = ap (λ (b : Bool). b && binds n e) (source_is_item e.action parts.0) ∙ parts.1 in
        absurd (true_false (is_made p n) (was_made (thing_at p n) refl h.0) (tells.new makes))

callees_stay : (p q : Parts) → ((n : ℕ) → IsObserver p n → IsObserver q n) → (ks : List Callee) → AllOf (IsInRole p) ks
    → AllOf (IsInRole q) ks
callees_stay p q h [] k = tt
callees_stay p q h (x ∷ ks) k = ((λ e. h x.number (k.0 e)), callees_stay p q h ks k.1)

frames_stay : (p q : Parts) → ((n : ℕ) → IsObserver p n → IsObserver q n) → (fs : List Frame) → InRoles p fs
    → InRoles q fs
frames_stay p q h [] k = tt
frames_stay p q h (f ∷ fs) k = (callees_stay p q h f.collected k.0, frames_stay p q h fs k.1)

abbrev pub AllInRoles : State → Type 0
AllInRoles st = (u : ℕ) → InRoles st.parts (frames_at u st)

collects_in : (s : Script) (t : ℕ) (st : State) (fs : List Frame) (d : Demand)
    → CollectsIn st.parts d (step_of s t st fs d).list
collects_in s t st fs (does x) = tt
collects_in s t st fs ends = tt
collects_in s t st fs returns = tt
collects_in s t st fs (owes o) = tt
collects_in s t st fs (spends i) = tt
collects_in s t st fs (drops b k o) = tt
collects_in s t st fs (calls k c) = tt
collects_in s t st fs (enters p) = note_collects st t p (top_kind fs)
collects_in s t st fs closes = tt

acted_in : (s : Script) (t : ℕ) (st : State) (d : Option Demand) → AllInRoles st
    → ((n : ℕ) → IsObserver st.parts n → IsObserver (acted s t st d).parts n) → AllInRoles (acted s t st d)
acted_in s t st None h stays = h
acted_in s t st (Some d) h stays =
    let step = step_of s t st (frames_at t st) d in
    let q = (done_by s t st d).parts in
    let new = after_in st.parts (facts_of st) t d (step_answer step st) step.list (frames_at t st) (collects_in s t st (frames_at t st) d) (h t) in
    stopped_in q step.stops (with_stand t (stand_after t d step st) st.stands)
    (put_in q t (stand_after t d step st) st.stands (frames_stay st.parts q stays (stand_after t d step st).frames new) (λ u. frames_stay st.parts q stays (frames_at u st) (h u)))

pub entry_in : (s : Script) (st : State) (e : Entry) → AllInRoles st → IsLegalEntry s st e
    → AllInRoles (after_action s e.thread st e.action)
entry_in s st e h legal = by e.action (λ n. still_observer s n e st.parts (after_action s e.thread st e.action).parts (entry_tells s n st e legal))
  where
    by : (a : Action) → ((n : ℕ) → IsObserver st.parts n → IsObserver (after_action s e.thread st a).parts n)
        → AllInRoles (after_action s e.thread st a)
    by (actions.Tick n) stays = λ u. frames_stay st.parts (after_action s e.thread st (actions.Tick n)).parts stays (frames_at u st) (h u)
    by actions.Stall stays = h
    by a stays = acted_in s e.thread st (demanded s st e.thread) h stays

pub start_in : (s : Script) → AllInRoles (start s)
start_in s u = openings_in (start s).parts 0 s.thread_count u
  where
    openings_in : (p : Parts) (a n u : ℕ) → InRoles p (stand_at u (map opening_stand (range_with_len a n))).frames
    openings_in p a zero zero = tt
    openings_in p a zero (suc u) = tt
    openings_in p a (suc n) zero = (tt, tt)
    openings_in p a (suc n) (suc u) = openings_in p (a + 1) n u
