-- Entries of other threads, ticks and stalls take none of a thread's next retains away.
use Rattle.std.proofs.Common.{◌++◌, ◌+◌, ◌<◌, ◌∙◌, ◌∷◌, ◌≡◌, ◌≤◌, Bool, List, None, Option, Some, [], ap, arith, cond, drop, false, inl, inr, length, map, refl, subst, suc, sym, true, zero, ℕ}
use Rattle.std.proofs.lemmas.Bool.Decides.{eqb_tells}
use Rattle.std.specs.List.{range_with_len}
use Rattle.std.specs.Prelude.{filter, is_some, slice_index_or}
use Rattle.cf_ids.specs.declared.answer.Answer.{Answer}
use Rattle.rl_base.specs.Receivers.{is_there_and, matches, receivers}
use Rattle.rl_base.specs.declared.registrations.Registration.{Registration}
use Rattle.rl_turn.specs.declared.phases.Phase.{Phase}
use Rattle.rl_turn.specs.declared.phases.Phase.TheVariants as phases
use Rattle.cf_syntax.specs.BlockLines.{BlockLine, begins, claims, packs, says}
use Rattle.cf_syntax.specs.Mentions.{first_of, ownership_of}
use Rattle.cf_syntax.specs.Owned.{FitsByBlock}
use Rattle.cf_syntax.specs.declared.script.Script.{Script}
use Rattle.cf_syntax.specs.declared.statement.Statement.{Statement}
use Rattle.cf_syntax.specs.declared.statement.Statement.TheVariants as forms
use Rattle.cf_next.specs.Advance.{frames_after, is_entered, is_post, line_done, on_top, receivers_in, run_frames}
use Rattle.cf_next.specs.Ahead.{Begins, ahead}
use Rattle.cf_next.specs.Demands.{Demand, callees_left, callout_of, calls, closes, does, drops, ends, enters, owes, returns, spends}
use Rattle.cf_next.specs.Facts.{Facts}
use Rattle.cf_next.specs.Next.{used_objects}
use Rattle.cf_next.specs.Stands.{Binding, Callee, Frame, Kind, Role, Stand, as_receiver, callee, of_block, of_handler, of_run, opening_stand, stop_frames, stop_stand}
use Rattle.cf_next.specs.Turns.{role_at}
use Rattle.cf_next.specs.declared.action.Action.{Action}
use Rattle.cf_next.specs.declared.action.Action.TheVariants as actions
use Rattle.cf_model.proofs.Beginning.{Known, TopKnown, ahead_begins, all_plain, stand_begins}
use Rattle.cf_model.proofs.Going.{acted_goes, entry_goes, goes_on}
use Rattle.cf_model.proofs.Onward.{AllOfMade, demand_goes, demand_of_made, demand_onward}
use Rattle.cf_model.proofs.Receiving.{IsOfMade, MadeIf, receivers_stay, registration_at}
use Rattle.cf_model.proofs.Sound.{entry_sound, sound_from, start_sound}
use Rattle.cf_model.proofs.Tokens.{at_other, at_own, frame}
use Rattle.cf_model.proofs.Using.{IsSound}
use Rattle.cf_model.proofs.Waiting.{IsWorked}
use Rattle.cf_model.proofs.Waits.{entry_worked, worked_along}
use Rattle.cf_model.specs.Coming.{NoneBy, next_retains}
use Rattle.cf_model.specs.Journals.{After, after_action, can_go, state_from, ticked}
use Rattle.cf_model.specs.Known.{facts_of, may_receive}
use Rattle.cf_model.specs.State.{State, at_or, blank, stand_at, start, threads_of, with_stand}
use Rattle.cf_model.specs.Steps.{acted, bindings_of, demanded, done_by, frames_at, line_step, stand_after, statement_step, step_answer, step_of, stopped_at}
use Rattle.cf_model.specs.declared.entry.Entry.{Entry}

abbrev pub FramesKnown : ℕ → List Frame → Type 0
FramesKnown n [] = Unit {0}
FramesKnown n (f ∷ fs) = Known n f.collected × FramesKnown n fs

known_more : (m n : ℕ) (ks : List Callee) → m ≤ n → Known m ks → Known n ks
known_more m n [] h k = tt
known_more m n (x ∷ ks) h k = ((λ e. omega (arith, h, k.0 e)), known_more m n ks h k.1)

frames_more : (m n : ℕ) (fs : List Frame) → m ≤ n → FramesKnown m fs → FramesKnown n fs
frames_more m n [] h k = tt
frames_more m n (f ∷ fs) h k = (known_more m n f.collected h k.0, frames_more m n fs h k.1)

left_known : (n : ℕ) (facts : Facts) (t : ℕ) (kind : Kind) (ks : List Callee) → Known n ks
    → Known n (callees_left facts t kind ks)
left_known n facts t kind [] k = tt
left_known n facts t kind (x ∷ ks) k = by (is_some (callout_of facts t kind x.role x.number)) (left_known n facts t kind ks k.1)
  where
    by : (b : Bool) → Known n (callees_left facts t kind ks) → Known n (cond b ks (callees_left facts t kind ks))
    by true ih = k.1
    by false ih = ih

abbrev AllBelow : ℕ → List ℕ → Type 0
AllBelow n [] = Unit {0}
AllBelow n (x ∷ xs) = (x < n) × AllBelow n xs

callees_known : (n : ℕ) (xs : List ℕ) → AllBelow n xs → Known n (map (callee as_receiver) xs)
callees_known n [] h = tt
callees_known n (x ∷ xs) h = ((λ e. h.0), callees_known n xs h.1)

roles_known : (n : ℕ) (role : Role) (xs : List ℕ) → (role ≡ as_receiver → ⊥) → Known n (map (callee role) xs)
roles_known n role [] h = tt
roles_known n role (x ∷ xs) h = ((λ e. absurd (h e)), roles_known n role xs h)

phase_role : (p : Phase) → role_at p ≡ as_receiver → ⊥
phase_role (phases.Note a) e = cc
phase_role phases.Sources e = cc
phase_role phases.Timers e = cc
phase_role phases.Sleep e = cc
phase_role phases.Test e = cc
phase_role phases.Ran e = cc

filter_below : (n : ℕ) (test : ℕ → Bool) (xs : List ℕ) → AllBelow n xs → AllBelow n (filter test xs)
filter_below n test [] h = tt
filter_below n test (x ∷ xs) h = by (test x) (filter_below n test xs h.1)
  where
    by : (b : Bool) → AllBelow n (filter test xs) → AllBelow n (cond b (x ∷ filter test xs) (filter test xs))
    by true ih = (h.0, ih)
    by false ih = ih

range_below : (n a k : ℕ) → a + k ≤ n → AllBelow n (range_with_len a k)
range_below n a zero h = tt
range_below n a (suc k) h = (omega arith, range_below n (a + 1) k (omega arith))

-- what a line posts to is registered
abbrev Posts : ℕ → BlockLine → List ℕ → Type 0
Posts n x list = is_post x ≡ true → AllBelow n list

statement_posts : (c : Script) (t d : ℕ) (st : State) (x : Statement) (used : List (Option ℕ))
    → Posts (length st.parts.registrations) (says x) (statement_step c t d st x used (ownership_of x)).list
statement_posts c t d st (forms.Post name info) used e =
    let n = length st.parts.registrations in
    filter_below n (λ k. is_there_and (may_receive st.parts) (slice_index_or st.parts.registrations k None)) (receivers name (first_of used) st.parts.registrations)
    (filter_below n (λ k. is_there_and (matches name (first_of used)) (slice_index_or st.parts.registrations k None)) (range_with_len 0 n) (range_below n 0 n (omega arith)))
statement_posts c t d st x used e = absurd cc

line_posts : (c : Script) (t d : ℕ) (st : State) (bs : List Binding) (x : BlockLine)
    → Posts (length st.parts.registrations) x (line_step c t d st bs x).list
line_posts c t d st bs (begins v) e = absurd cc
line_posts c t d st bs (claims k v) e = absurd cc
line_posts c t d st bs (packs u k v) e = absurd cc
line_posts c t d st bs (says x) e = statement_posts c t d st x (used_objects bs (says x)) e

abbrev StepPosts : ℕ → Demand → List ℕ → Type 0
StepPosts n (does x) list = Posts n x list
StepPosts n _ list = Unit {0}

step_posts : (c : Script) (t : ℕ) (st : State) (fs : List Frame) (d : Demand)
    → StepPosts (length st.parts.registrations) d (step_of c t st fs d).list
step_posts c t st fs (does x) = line_posts c t _ st (bindings_of fs) x
step_posts c t st fs _ = tt

-- frames after a demand

run_frames_known : (n time : ℕ) (x : BlockLine) (b : Bool) (fs : List Frame) → FramesKnown n fs
    → FramesKnown n (run_frames time x b ++ fs)
run_frames_known n time (says (forms.Run m limit once)) true fs h = (tt, h)
run_frames_known n time x b fs h = h

line_known : (n : ℕ) (x : BlockLine) (list : List ℕ) → Posts n x list → Known n (receivers_in x list)
line_known n x list h = by (is_post x) (λ e. h e)
  where
    by : (b : Bool) → (b ≡ true → AllBelow n list) → Known n (cond b (map (callee as_receiver) list) [])
    by true k = callees_known n list (k refl)
    by false k = tt

top_known : (n : ℕ) (f : Frame → Frame) (fs : List Frame)
    → ((x : Frame) → Known n x.collected → Known n (f x).collected) → FramesKnown n fs → FramesKnown n (on_top f fs)
top_known n f [] h k = tt
top_known n f (x ∷ xs) h k = (h x k.0, k.1)

drop_known : (n : ℕ) (fs : List Frame) → FramesKnown n fs → FramesKnown n (drop 1 fs)
drop_known n [] k = tt
drop_known n (f ∷ fs) k = k.1

after_known : (n : ℕ) (facts : Facts) (t : ℕ) (d : Demand) (answer : Answer) (list : List ℕ) (fs : List Frame)
    → StepPosts n d list → FramesKnown n fs → FramesKnown n (frames_after facts t d answer list fs)
after_known n facts t (does x) answer list fs p k = run_frames_known n facts.time x (is_entered answer) (on_top (line_done facts t x answer list) fs) (top_known n (line_done facts t x answer list) fs (λ f h. line_known n x list p) k)
after_known n facts t ends answer list fs p k = k
after_known n facts t returns answer list fs p k = drop_known n fs k
after_known n facts t (owes o) answer list fs p k = k
after_known n facts t (spends i) answer list fs p k = k
after_known n facts t (drops b j o) answer list fs p k = k
after_known n facts t (calls q called) answer list fs p k = (tt, top_known n _ fs (λ f h. left_known n facts t f.kind f.collected h) k)
after_known n facts t (enters p) answer list fs q k = top_known n _ fs (λ f h. roles_known n (role_at p) list (phase_role p)) k
after_known n facts t closes answer list fs p k = drop_known n fs k

stop_known_by : (n : ℕ) (k : Kind) (b m : ℕ) (bs : List Binding) (cs : List Callee) (fs : List Frame)
    → FramesKnown n (frame k b m bs cs ∷ fs) → FramesKnown n (stop_frames fs)
    → FramesKnown n (stop_frames (frame k b m bs cs ∷ fs))
stop_known_by n of_block b m bs cs fs h rest = (h.0, rest)
stop_known_by n (of_handler k) b m bs cs fs h rest = (h.0, rest)
stop_known_by n (of_run r) b m bs cs fs h rest = (h.0, h.1)

stop_known : (n : ℕ) (fs : List Frame) → FramesKnown n fs → FramesKnown n (stop_frames fs)
stop_known n [] h = tt
stop_known n (f ∷ fs) h = stop_known_by n f.kind f.block f.number f.bindings f.collected fs h (stop_known n fs h.1)

stopped_known : (n : ℕ) (stops : Option ℕ) (ss : List Stand) → ((u : ℕ) → FramesKnown n (stand_at u ss).frames)
    → (u : ℕ) → FramesKnown n (stand_at u (stopped_at stops ss)).frames
stopped_known n None ss h u = h u
stopped_known n (Some w) ss h u = elim (eqb_tells u w) [
  | inl e ↦ subst (λ (v : ℕ). FramesKnown n (stand_at v (stopped_at (Some w) ss)).frames) (sym e.1) (subst (λ (s : Stand). FramesKnown n s.frames) (sym (at_own blank w (stop_stand (stand_at w ss)) ss)) (stop_known n (stand_at w ss).frames (h w)))
  | inr e ↦ subst (λ (s : Stand). FramesKnown n s.frames) (sym (at_other blank u w (stop_stand (stand_at w ss)) ss e.1)) (h u)
]

all_known : (n t : ℕ) (new : Stand) (ss : List Stand) → FramesKnown n new.frames
    → ((u : ℕ) → FramesKnown n (stand_at u ss).frames) → (u : ℕ)
    → FramesKnown n (stand_at u (with_stand t new ss)).frames
all_known n t new ss mine h u = elim (eqb_tells u t) [
  | inl e ↦ subst (λ (v : ℕ). FramesKnown n (stand_at v (with_stand t new ss)).frames) (sym e.1) (subst (λ (s : Stand). FramesKnown n s.frames) (sym (at_own blank t new ss)) mine)
  | inr e ↦ subst (λ (s : Stand). FramesKnown n s.frames) (sym (at_other blank u t new ss e.1)) (h u)
]

-- what is collected was registered, and registrations are of objects that were made
pub record IsKnown (st : State) : Type 0 where
  pub frames : (t : ℕ) → FramesKnown (length st.parts.registrations) (frames_at t st)
  pub registered : AllOfMade st.parts

demand_known : (c : Script) (t : ℕ) (st : State) (d : Demand) → FitsByBlock c → IsSound c st → IsKnown st
    → demanded c st t ≡ Some d → IsKnown (done_by c t st d)
demand_known c t st d own h k e =
    let step = step_of c t st (frames_at t st) d in
    let n = length step.parts.registrations in
    let size = (demand_goes c t st own h d e).size in
    let fs = after_known n (facts_of st) t d (step_answer step st) step.list (frames_at t st) (more d (length st.parts.registrations) n step.list size (step_posts c t st (frames_at t st) d)) (frames_more (length st.parts.registrations) n (frames_at t st) size (k.frames t)) in
    record {
      frames = stopped_known n step.stops (with_stand t (stand_after t d step st) st.stands) (all_known n t (stand_after t d step st) st.stands fs (λ u. frames_more (length st.parts.registrations) n (frames_at u st) size (k.frames u)));
      registered = demand_of_made c t st d own h e k.registered;
    }
  where
    below_more : (m n : ℕ) (xs : List ℕ) → m ≤ n → AllBelow m xs → AllBelow n xs
    below_more m n [] h k = tt
    below_more m n (x ∷ xs) h k = (omega (arith, h, k.0), below_more m n xs h k.1)

    more : (d : Demand) (m n : ℕ) (list : List ℕ) → m ≤ n → StepPosts m d list → StepPosts n d list
    more (does x) m n list h p = λ e. below_more m n list h (p e)
    more _ m n list h p = tt

acted_known : (c : Script) (t : ℕ) (st : State) (d : Option Demand) → FitsByBlock c → IsSound c st → IsKnown st
    → demanded c st t ≡ d → IsKnown (acted c t st d)
acted_known c t st None own h k e = k
acted_known c t st (Some d) own h k e = demand_known c t st d own h k e

ticked_made : (n : ℕ) (st : State) → AllOfMade st.parts → AllOfMade (ticked n st).parts
ticked_made n st all m = by (registration_at st.parts m) (all m)
  where
    by_filter : (f : Option ℕ) → MadeIf st.parts f → MadeIf (ticked n st).parts f
    by_filter None made = tt
    by_filter (Some o) made = made

    by : (r : Option Registration) → IsOfMade st.parts r → IsOfMade (ticked n st).parts r
    by None made = tt
    by (Some r) made = (made.0, by_filter r.filter made.1)

pub entry_known : (c : Script) (t : ℕ) (st : State) (a : Action) → FitsByBlock c → IsSound c st → IsKnown st
    → IsKnown (after_action c t st a)
entry_known c t st (actions.Tick n) own h k = record { frames = k.frames; registered = ticked_made n st k.registered }
entry_known c t st actions.Stall own h k = k
entry_known c t st a own h k = acted_known c t st (demanded c st t) own h k refl

top_of : (n : ℕ) (fs : List Frame) → FramesKnown n fs → TopKnown n fs
top_of n [] k = tt
top_of n (f ∷ fs) k = k.0

begins-self : (xs : List ℕ) → Begins xs xs
begins-self xs = record { rest = []; is = app-nil xs }
  where
    app-nil : (xs : List ℕ) → xs ++ [] ≡ xs
    app-nil [] = refl
    app-nil (x ∷ xs) = ap (λ l. x ∷ l) (app-nil xs)

begins-trans : (xs ys zs : List ℕ) → Begins xs ys → Begins ys zs → Begins xs zs
begins-trans xs ys zs a b = record { rest = a.rest ++ b.rest; is = assoc xs ∙ ap (λ l. l ++ b.rest) a.is ∙ b.is }
  where
    assoc : (ws : List ℕ) → ws ++ (a.rest ++ b.rest) ≡ (ws ++ a.rest) ++ b.rest
    assoc [] = refl
    assoc (w ∷ ws) = ap (λ l. w ∷ l) (assoc ws)

-- ungated first
abbrev due : Script → State → ℕ → List ℕ
due c st t = ahead c (facts_of st) t (stand_at t st.stands)

gate_begins : (a b : Bool) (xs ys : List ℕ) → (a ≡ true → b ≡ true) → Begins xs ys
    → Begins (cond a xs []) (cond b ys [])
gate_begins false b xs ys h k = record { rest = cond b ys []; is = refl }
gate_begins true b xs ys h k = subst (λ (d : Bool). Begins xs (cond d ys [])) (sym (h refl)) k

ahead_tick : (c : Script) (n t : ℕ) (st : State) → TopKnown (length st.parts.registrations) (frames_at t st)
    → Begins (due c st t) (due c (ticked n st) t)
ahead_tick c n t st known =
    stand_begins c st (ticked n st) t (stand_at t st.stands) (stand_at t st.stands).frames (λ e. e) (all_plain c st (ticked n st) t (stand_at t st.stands).frames known (λ r near none. none))

ahead_step : (c : Script) (u t : ℕ) (st : State) (d : Demand) → (t ≡ u → ⊥) → FitsByBlock c → IsSound c st → IsWorked st
    → IsKnown st → demanded c st u ≡ Some d → Begins (due c st t) (due c (done_by c u st d) t)
ahead_step c u t st d apart own h w k e =
    ahead_begins c u t st d apart own h w e (top_of (length st.parts.registrations) (frames_at t st) (k.frames t))
    (λ r near none. receivers_stay st.parts (done_by c u st d).parts r (demand_onward c u st own h d e) (k.registered r) near none)

acted_begins : (c : Script) (u t : ℕ) (st : State) (d : Option Demand) → (t ≡ u → ⊥) → FitsByBlock c → IsSound c st
    → IsWorked st → IsKnown st → demanded c st u ≡ d → Begins (next_retains c st t) (next_retains c (acted c u st d) t)
acted_begins c u t st None apart own h w k e = begins-self (next_retains c st t)
acted_begins c u t st (Some d) apart own h w k e =
    gate_begins (can_go st t) (can_go (done_by c u st d) t) (due c st t) (due c (done_by c u st d) t) (goes_on t st (done_by c u st d) (acted_goes c u t st (Some d) apart)) (ahead_step c u t st d apart own h w k e)

entry_begins : (c : Script) (u t : ℕ) (st : State) (a : Action) → (t ≡ u → ⊥) → FitsByBlock c → IsSound c st
    → IsWorked st → IsKnown st → Begins (next_retains c st t) (next_retains c (after_action c u st a) t)
entry_begins c u t st (actions.Tick n) apart own h w k =
    gate_begins (can_go st t) (can_go (ticked n st) t) (due c st t) (due c (ticked n st) t) (goes_on t st (ticked n st) (entry_goes c u t st (actions.Tick n) apart)) (ahead_tick c n t st (top_of (length st.parts.registrations) (frames_at t st) (k.frames t)))
entry_begins c u t st actions.Stall apart own h w k = begins-self (next_retains c st t)
entry_begins c u t st a apart own h w k = acted_begins c u t st (demanded c st u) apart own h w k refl

pub begins_from : (c : Script) (t : ℕ) (st : State) (more : List Entry) → FitsByBlock c → IsSound c st → IsWorked st
    → IsKnown st → NoneBy t more → Begins (next_retains c st t) (next_retains c (state_from c st more) t)
begins_from c t st [] own h w k none = begins-self (next_retains c st t)
begins_from c t st (e ∷ more) own h w k none =
    let new = after_action c e.thread st e.action in
    begins-trans (next_retains c st t) (next_retains c new t) (next_retains c (state_from c new more) t) (entry_begins c e.thread t st e.action none.0 own h w k)
    (begins_from c t new more own (entry_sound c e.thread st e.action own h) (entry_worked c e.thread st e.action own h w) (entry_known c e.thread st e.action own h k) none.1)

known_from : (c : Script) (st : State) (es : List Entry) → FitsByBlock c → IsSound c st → IsKnown st
    → IsKnown (state_from c st es)
known_from c st [] own h k = k
known_from c st (e ∷ es) own h k = known_from c (after_action c e.thread st e.action) es own (entry_sound c e.thread st e.action own h) (entry_known c e.thread st e.action own h k)

opening_known : (ts : List ℕ) (u : ℕ) → FramesKnown 0 (at_or blank u (map opening_stand ts)).frames
opening_known [] zero = tt
opening_known [] (suc u) = tt
opening_known (t ∷ ts) zero = (tt, tt)
opening_known (t ∷ ts) (suc u) = opening_known ts u

start_known : (c : Script) → IsKnown (start c)
start_known c = record { frames = opening_known (threads_of c); registered = none_registered }
  where
    none_registered : AllOfMade (start c).parts
    none_registered zero = tt
    none_registered (suc n) = tt

state-append : (c : Script) (st : State) (es more : List Entry)
    → state_from c st (es ++ more) ≡ state_from c (state_from c st es) more
state-append c st [] more = refl
state-append c st (e ∷ es) more = state-append c (after_action c e.thread st e.action) es more

-- entries of other threads and of the lead take none of a thread's next retains away
pub ahead_frame : (c : Script) (journal more : List Entry) (t : ℕ) → FitsByBlock c → NoneBy t more
    → Begins (next_retains c (After c journal) t) (next_retains c (After c (journal ++ more)) t)
ahead_frame c journal more t own none = subst (λ (st : State). Begins (next_retains c (After c journal) t) (next_retains c st t)) (sym (state-append c (start c) journal more))
    (begins_from c t (After c journal) more own (sound_from c (start c) journal own (start_sound c)) (worked_along c journal own) (known_from c (start c) journal own (start_sound c) (start_known c)) none)
