-- Another thread's entry takes none of a thread's next retains away.
use Rattle.std.proofs.Common.{◌&&◌, ◌<◌, ◌∙◌, ◌∷◌, ◌≡◌, ◌≤◌, Bool, List, None, Option, Some, [], ap, append-nil, arith, cond, drop, eqb, false, inl, inr, length, ltb, refl, subst, suc, sym, true, zero, ℕ}
use Rattle.std.proofs.lemmas.Bool.{eq-eqb}
use Rattle.std.proofs.lemmas.Bool.Decides.{eqb_tells}
use Rattle.std.specs.Prelude.{slice_get}
use Rattle.rl_base.specs.Receivers.{receivers}
use Rattle.cf_syntax.specs.Owned.{FitsByBlock}
use Rattle.cf_syntax.specs.declared.script.Script.{Script}
use Rattle.cf_contents.specs.Contents.{slots_at, times}
use Rattle.cf_graph.specs.Edges.{counted}
use Rattle.cf_next.specs.Ahead.{Begins, ahead, frame_ahead, lines_ahead, unless_due}
use Rattle.cf_next.specs.Demands.{Demand, call_demand, call_if, callout_of, frame_lines, item_callout, slot_if, work_demand}
use Rattle.cf_next.specs.Facts.{Callout}
use Rattle.cf_next.specs.Stands.{Binding, Callee, Frame, Kind, Role, Stand, Work, as_observer, as_receiver, as_source, as_timer, of_block, of_handler, of_run, release_of, slots_of, spend_of, stop_frames, stop_stand}
use Rattle.cf_model.proofs.Tokens.{at_other, at_own, frame}
use Rattle.cf_model.proofs.Using.{IsSound, own_held}
use Rattle.cf_model.proofs.Views.{stand_view}
use Rattle.cf_model.proofs.Waiting.{IsWorked, Places, none_here, waits_in, waits_most}
use Rattle.cf_model.proofs.Waits.{left_after, others_stay}
use Rattle.cf_model.specs.Changes.{apart}
use Rattle.cf_model.specs.Known.{facts_of, slot_left}
use Rattle.cf_model.specs.State.{State, blank, left_of, stand_at, with_stand}
use Rattle.cf_model.specs.Steps.{demanded, done_by, frames_at, stand_after, step_of, stopped_at}

-- callees that are receivers were registered
abbrev pub Known : ℕ → List Callee → Type 0
Known n [] = Unit {0}
Known n (k ∷ ks) = (k.role ≡ as_receiver → k.number < n) × Known n ks

abbrev pub TopKnown : ℕ → List Frame → Type 0
TopKnown n [] = Unit {0}
TopKnown n (f ∷ fs) = Known n f.collected

nothing_begins : (ys : List ℕ) → Begins [] ys
nothing_begins ys = record { rest = ys; is = refl }

whole_begins : (xs ys : List ℕ) → xs ≡ ys → Begins xs ys
whole_begins xs ys e = record { rest = []; is = append-nil xs ∙ e }

-- ---- work that is exhausted stays so

drop_nothing : (xs : List ℕ) (k : ℕ) → drop k xs ≡ [] → slice_get xs k ≡ None
drop_nothing [] k e = refl
drop_nothing (x ∷ xs) zero e = absurd cc
drop_nothing (x ∷ xs) (suc k) e = drop_nothing xs k e

gone_slot : (st : State) (b k : ℕ) → k ≡ times b st.parts.dropped → left_of st.parts.objects st.parts.dropped b ≡ []
    → slot_left st.parts b k ≡ None
gone_slot st b k place e = by (ltb 0 (times b st.parts.finalised) && eqb k (times b st.parts.dropped))
  where
    by : (test : Bool) → cond test (slice_get (slots_at (slice_get st.parts.objects b)) k) None ≡ None
    by true = drop_nothing (slots_at (slice_get st.parts.objects b)) k (ap (λ (n : ℕ). drop n (slots_at (slice_get st.parts.objects b))) place ∙ e)
    by false = refl

stays_if : (first rest : Option Demand) (b k : ℕ) (left after : Option ℕ) → slot_if b k left first ≡ None
    → (left ≡ None → after ≡ None) → (first ≡ None → rest ≡ None) → slot_if b k after rest ≡ None
stays_if first rest b k None after e gone more = rw (gone refl) (more e)
stays_if first rest b k (Some o) after e gone more = absurd cc

module _ (st new : State) (left : (b : ℕ) → 0 < times b st.parts.finalised → left_of st.parts.objects st.parts.dropped b ≡ [] → left_of new.parts.objects new.parts.dropped b ≡ []) where
  idle_stays : (work : List Work) → ((b : ℕ) → waits_in b work ≤ times b st.parts.finalised)
      → Places st.parts.dropped work → Places new.parts.dropped work → work_demand (facts_of st) work ≡ None
      → work_demand (facts_of new) work ≡ None
  idle_stays [] most old now e = refl
  idle_stays (release_of o ∷ work) most old now e = absurd cc
  idle_stays (spend_of i ∷ work) most old now e = absurd cc
  idle_stays (slots_of b k ∷ work) most old now e =
      let own : counted (eqb b b) ≡ 1 = ap counted (eq-eqb b b refl) in
      let final : 0 < times b st.parts.finalised = omega (arith, own, most b) in
      stays_if (work_demand (facts_of st) work) (work_demand (facts_of new) work) b k (slot_left st.parts b k) (slot_left new.parts b k) e
      (λ gone. gone_slot new b k now.0 (left b final (none_here st b final k old.0 gone)))
      (idle_stays work (λ d. omega (arith, most d)) old.1 now.1)

-- ---- receivers that no longer fit do not fit again: what a state has to keep for that

abbrev pub ReceiversStay : State → State → Type 0
ReceiversStay st new = (r : ℕ) → r < length st.parts.registrations → (facts_of st).receiver r ≡ None → (facts_of new).receiver r ≡ None

calls_if : (k : Callee) (a b : Option Callout) (x y : Option Demand) → call_if k a x ≡ None → (a ≡ None → b ≡ None)
    → (x ≡ None → y ≡ None) → call_if k b y ≡ None
calls_if k None b x y e gone more = rw (gone refl) (more e)
calls_if k (Some p) b x y e gone more = absurd cc

abbrev NoRun : Kind → Type 0
NoRun (of_run r) = ⊥
NoRun _ = Unit {0}

-- only a run calls items
no_item : (st : State) (t : ℕ) (kind : Kind) (role : Role) (n : ℕ) → NoRun kind
    → item_callout (facts_of st) t kind role n ≡ None
no_item st t of_block role n free = refl
no_item st t (of_handler k) role n free = refl
no_item st t (of_run r) role n free = absurd free

callout_stays : (st new : State) (t : ℕ) (kind : Kind) (role : Role) (n : ℕ) → NoRun kind
    → (role ≡ as_receiver → n < length st.parts.registrations) → ReceiversStay st new
    → callout_of (facts_of st) t kind role n ≡ None → callout_of (facts_of new) t kind role n ≡ None
callout_stays st new t kind as_receiver n free known h e = h n (known refl) e
callout_stays st new t kind as_observer n free known h e = no_item new t kind as_observer n free
callout_stays st new t kind as_source n free known h e = no_item new t kind as_source n free
callout_stays st new t kind as_timer n free known h e = no_item new t kind as_timer n free

call_stays : (st new : State) (t : ℕ) (kind : Kind) (ks : List Callee) → NoRun kind
    → Known (length st.parts.registrations) ks → ReceiversStay st new → call_demand (facts_of st) t kind ks ≡ None
    → call_demand (facts_of new) t kind ks ≡ None
call_stays st new t kind [] free known h e = refl
call_stays st new t kind (k ∷ ks) free known h e =
    calls_if k (callout_of (facts_of st) t kind k.role k.number) (callout_of (facts_of new) t kind k.role k.number) (call_demand (facts_of st) t kind ks) (call_demand (facts_of new) t kind ks) e (callout_stays st new t kind k.role k.number free known.0 h) (call_stays st new t kind ks free known.1 h)

due_begins : (a b : Option Demand) (os : List ℕ) → (a ≡ None → b ≡ None) → Begins (unless_due a os) (unless_due b os)
due_begins None b os h = rw (h refl) (whole_begins os os refl)
due_begins (Some d) b os h = nothing_begins (unless_due b os)

-- a frame on top is stopped only if it is a run's, which has no lines
run_nothing : (a : Option Demand) (bs : List Binding) (n : ℕ) → unless_due a (lines_ahead bs (drop n [])) ≡ []
run_nothing None bs zero = refl
run_nothing None bs (suc n) = refl
run_nothing (Some d) bs n = refl

frames_begin : (c : Script) (st new : State) (t : ℕ) (k : Kind) (b n : ℕ) (bs : List Binding) (cs : List Callee)
    (fs : List Frame)
    → Known (length st.parts.registrations) cs → ReceiversStay st new
    → Begins (frame_ahead c (facts_of st) t (frame k b n bs cs ∷ fs)) (frame_ahead c (facts_of new) t (stop_frames (frame k b n bs cs ∷ fs)))
frames_begin c st new t of_block b n bs cs fs known h =
    due_begins (call_demand (facts_of st) t of_block cs) (call_demand (facts_of new) t of_block cs) (lines_ahead bs (drop n (frame_lines c of_block b))) (call_stays st new t of_block cs tt known h)
frames_begin c st new t (of_handler k) b n bs cs fs known h =
    due_begins (call_demand (facts_of st) t (of_handler k) cs) (call_demand (facts_of new) t (of_handler k) cs) (lines_ahead bs (drop n (frame_lines c (of_handler k) b))) (call_stays st new t (of_handler k) cs tt known h)
frames_begin c st new t (of_run r) b n bs cs fs known h =
    subst (λ (xs : List ℕ). Begins xs (frame_ahead c (facts_of new) t (stop_frames (frame (of_run r) b n bs cs ∷ fs)))) (sym (run_nothing (call_demand (facts_of st) t (of_run r) cs) bs n)) (nothing_begins (frame_ahead c (facts_of new) t (stop_frames (frame (of_run r) b n bs cs ∷ fs))))

plain_begin : (c : Script) (st new : State) (t : ℕ) (k : Kind) (b n : ℕ) (bs : List Binding) (cs : List Callee)
    (fs : List Frame)
    → Known (length st.parts.registrations) cs → ReceiversStay st new
    → Begins (frame_ahead c (facts_of st) t (frame k b n bs cs ∷ fs)) (frame_ahead c (facts_of new) t (frame k b n bs cs ∷ fs))
plain_begin c st new t of_block b n bs cs fs known h =
    due_begins (call_demand (facts_of st) t of_block cs) (call_demand (facts_of new) t of_block cs) (lines_ahead bs (drop n (frame_lines c of_block b))) (call_stays st new t of_block cs tt known h)
plain_begin c st new t (of_handler k) b n bs cs fs known h =
    due_begins (call_demand (facts_of st) t (of_handler k) cs) (call_demand (facts_of new) t (of_handler k) cs) (lines_ahead bs (drop n (frame_lines c (of_handler k) b))) (call_stays st new t (of_handler k) cs tt known h)
plain_begin c st new t (of_run r) b n bs cs fs known h =
    subst (λ (xs : List ℕ). Begins xs (frame_ahead c (facts_of new) t (frame (of_run r) b n bs cs ∷ fs))) (sym (run_nothing (call_demand (facts_of st) t (of_run r) cs) bs n)) (nothing_begins (frame_ahead c (facts_of new) t (frame (of_run r) b n bs cs ∷ fs)))

pub stand_begins : (c : Script) (st new : State) (t : ℕ) (s : Stand) (fs : List Frame)
    → (work_demand (facts_of st) s.work ≡ None → work_demand (facts_of new) s.work ≡ None)
    → Begins (frame_ahead c (facts_of st) t s.frames) (frame_ahead c (facts_of new) t fs)
    → Begins (ahead c (facts_of st) t s) (ahead c (facts_of new) t (record { frames = fs; work = s.work; is_done = s.is_done }))
stand_begins c st new t s fs idle begins = by s.is_done
  where
    works : (a b : Option Demand) (xs ys : List ℕ) → (a ≡ None → b ≡ None) → Begins xs ys
        → Begins (unless_due a xs) (unless_due b ys)
    works None b xs ys h k = rw (h refl) k
    works (Some d) b xs ys h k = nothing_begins (unless_due b ys)

    by : (done : Bool)
        → Begins (cond done [] (unless_due (work_demand (facts_of st) s.work) (frame_ahead c (facts_of st) t s.frames))) (cond done [] (unless_due (work_demand (facts_of new) s.work) (frame_ahead c (facts_of new) t fs)))
    by true = nothing_begins []
    by false = works (work_demand (facts_of st) s.work) (work_demand (facts_of new) s.work) (frame_ahead c (facts_of st) t s.frames) (frame_ahead c (facts_of new) t fs) idle begins

pub all_plain : (c : Script) (st new : State) (t : ℕ) (fs : List Frame) → TopKnown (length st.parts.registrations) fs
    → ReceiversStay st new → Begins (frame_ahead c (facts_of st) t fs) (frame_ahead c (facts_of new) t fs)
all_plain c st new t [] known h = nothing_begins []
all_plain c st new t (f ∷ fs) known h = plain_begin c st new t f.kind f.block f.number f.bindings f.collected fs known h

all_stopped : (c : Script) (st new : State) (t : ℕ) (fs : List Frame) → TopKnown (length st.parts.registrations) fs
    → ReceiversStay st new → Begins (frame_ahead c (facts_of st) t fs) (frame_ahead c (facts_of new) t (stop_frames fs))
all_stopped c st new t [] known h = nothing_begins []
all_stopped c st new t (f ∷ fs) known h = frames_begin c st new t f.kind f.block f.number f.bindings f.collected fs known h

-- a step of another thread u
pub ahead_begins : (c : Script) (u t : ℕ) (st : State) (d : Demand) → (t ≡ u → ⊥) → FitsByBlock c → IsSound c st
    → IsWorked st → demanded c st u ≡ Some d → TopKnown (length st.parts.registrations) (frames_at t st)
    → ReceiversStay st (done_by c u st d)
    → Begins (ahead c (facts_of st) t (stand_at t st.stands)) (ahead c (facts_of (done_by c u st d)) t (stand_at t (done_by c u st d).stands))
ahead_begins c u t st d apart own h k e known receivers =
    let s = stand_at u st.stands in
    let view = stand_view c (facts_of st) u s d e in
    let left = left_after c u st own h s d (own_held c st u h.held) (h.frames u) view in
    let new = done_by c u st d in
    let before = stand_at t st.stands in
    let idle = idle_stays st new left before.work (λ b. waits_most st t b k) (k.places t) (others_stay c u st own h d k view t apart) in
    by (step_of c u st s.frames d).stops idle
  where
    ss : List Stand
    ss = with_stand u (stand_after u d (step_of c u st (frames_at u st) d) st) st.stands

    new : State
    new = done_by c u st d

    same : stand_at t ss ≡ stand_at t st.stands
    same = at_other blank t u (stand_after u d (step_of c u st (frames_at u st) d) st) st.stands apart

    by : (stops : Option ℕ)
        → (work_demand (facts_of st) (stand_at t st.stands).work ≡ None → work_demand (facts_of new) (stand_at t st.stands).work ≡ None)
        → Begins (ahead c (facts_of st) t (stand_at t st.stands)) (ahead c (facts_of new) t (stand_at t (stopped_at stops ss)))
    by None idle = rw same (stand_begins c st new t (stand_at t st.stands) (stand_at t st.stands).frames idle (all_plain c st new t (stand_at t st.stands).frames known receivers))
    by (Some w) idle = elim (eqb_tells t w) [
      | inl q ↦ subst (λ (x : Stand). Begins (ahead c (facts_of st) t (stand_at t st.stands)) (ahead c (facts_of new) t x)) (sym (stop_here w q.1)) (stand_begins c st new t (stand_at t st.stands) (stop_frames (stand_at t st.stands).frames) idle (all_stopped c st new t (stand_at t st.stands).frames known receivers))
      | inr q ↦ subst (λ (x : Stand). Begins (ahead c (facts_of st) t (stand_at t st.stands)) (ahead c (facts_of new) t x)) (sym (at_other blank t w (stop_stand (stand_at w ss)) ss q.1 ∙ same)) (stand_begins c st new t (stand_at t st.stands) (stand_at t st.stands).frames idle (all_plain c st new t (stand_at t st.stands).frames known receivers))
    ]
      where
        stop_here : (w : ℕ) → t ≡ w → stand_at t (stopped_at (Some w) ss) ≡ stop_stand (stand_at t st.stands)
        stop_here w q = subst (λ (n : ℕ). stand_at t (stopped_at (Some n) ss) ≡ stop_stand (stand_at t st.stands)) q (at_own blank t (stop_stand (stand_at t ss)) ss ∙ ap stop_stand same)
