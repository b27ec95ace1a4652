-- Along the journals of an owned script each finalised body that has slots left waits once in the work of a thread.
use Rattle.std.proofs.Common.{◌+◌, ◌-◌, ◌<◌, ◌==◌, ◌∙◌, ◌∷◌, ◌≡◌, Bool, List, None, Option, Some, [], ap, arith, cond, eqb, false, inl, inr, length, map, refl, subst, sym, true, ℕ}
use Rattle.std.proofs.lemmas.Bool.{cases_lt}
use Rattle.std.proofs.lemmas.Bool.Decides.{eqb_tells}
use Rattle.std.specs.Prelude.{slice_get}
use Rattle.cf_syntax.specs.BlockLines.{BlockLine, begins, claims, line_uses, packs, says}
use Rattle.cf_syntax.specs.Owned.{FitsByBlock}
use Rattle.cf_syntax.specs.declared.script.Script.{Script}
use Rattle.cf_contents.proofs.SlotLaws.{times-append}
use Rattle.cf_contents.specs.Contents.{times}
use Rattle.cf_graph.proofs.Same.{same-refl}
use Rattle.cf_graph.specs.Degrees.{owns}
use Rattle.cf_graph.specs.Edges.{counted, degree}
use Rattle.cf_graph.specs.Flows.{Flow, IsThere, cut_of, flowed, grows, shrinks}
use Rattle.cf_next.specs.Advance.{work_after}
use Rattle.cf_next.specs.Demands.{Demand, frame_lines, spends, work_demand}
use Rattle.cf_next.specs.Next.{action_in, used_objects}
use Rattle.cf_next.specs.Stands.{Frame, Stand, Work, opening_stand}
use Rattle.cf_next.specs.declared.action.Action.{Action}
use Rattle.cf_next.specs.declared.action.Action.TheVariants as actions
use Rattle.cf_model.proofs.Acting.{demand_fits}
use Rattle.cf_model.proofs.Balance.{IsBalanced, live_there}
use Rattle.cf_model.proofs.Dropping.{left_here}
use Rattle.cf_model.proofs.FrameOrder.{FramesFit, fit_line}
use Rattle.cf_model.proofs.Keeping.{OwnHeld, stand}
use Rattle.cf_model.proofs.Owning.{Owns}
use Rattle.cf_model.proofs.Saying.{used_live}
use Rattle.cf_model.proofs.Sound.{entry_sound, spend_places, start_sound, uses_at_most}
use Rattle.cf_model.proofs.Spending.{opening_work, stopped_work}
use Rattle.cf_model.proofs.Taking.{deal_of_fits}
use Rattle.cf_model.proofs.Tokens.{at_other, at_own}
use Rattle.cf_model.proofs.Using.{IsSound, demand_may, own_held}
use Rattle.cf_model.proofs.Views.{FrameView, StandView, WorkView, first_drops, first_owes, first_spends, idle_owed, of_frame, of_work, stand_view}
use Rattle.cf_model.proofs.Waiting.{GivesUpNone, IsWorked, LineFits, Places, drops_others, frame_up, own_works, passed, passed_left, places-bodies, stopped-summed, summed, summed-most, summed-with, waits, waits-bodies, waits_in}
use Rattle.cf_model.specs.Journals.{After, HasGivenUp, after_action, owners_of, state_from}
use Rattle.cf_model.specs.Known.{facts_of}
use Rattle.cf_model.specs.Owned.{AllIdle}
use Rattle.cf_model.specs.State.{State, blank, left_of, stand_at, start, threads_of, with_stand}
use Rattle.cf_model.specs.Steps.{acted, demanded, done_by, finals_of, frames_at, stand_after, step_answer, step_finals, step_of, stopped_at}
use Rattle.cf_model.specs.Tokens.{lines_done, owed_in}
use Rattle.cf_model.specs.declared.entry.Entry.{Entry}

-- what a step finalises was live
final_live : (st : State) (fl : Flow) (b : ℕ) → IsBalanced st → IsThere fl st.edges
    → 0 < times b (finals_of (cut_of fl) (flowed fl st.edges)) → times b st.parts.finalised ≡ 0
final_live st (grows ins ms) b h can some = absurd (omega arith)
final_live st (shrinks r) b h can some = by (degree r.object (flowed (shrinks r) st.edges) == 0) some
  where
    live : times r.object st.parts.finalised ≡ 0
    live = (live_there st r h (omega (arith, can r, ap counted (same-refl r)))).0

    by : (test : Bool) → 0 < times b (cond test (r.object ∷ []) []) → times b st.parts.finalised ≡ 0
    by true some = elim (eqb_tells r.object b) [
      | inl e ↦ subst (λ (n : ℕ). times n st.parts.finalised ≡ 0) e.1 live
      | inr e ↦ absurd (let none : counted (eqb r.object b) ≡ 0 = ap counted e.0 in omega arith)
    ]
    by false some = absurd (omega arith)

none_left : (x : ℕ) (xs : List ℕ) → x ∷ xs ≡ [] → ⊥
none_left x xs e = cc

module _ (c : Script) (t : ℕ) (st : State) (own : FitsByBlock c) (h : IsSound c st) where
  line_fits : (f : Frame) (fs : List Frame) (work : List Work) (done : Bool)
      → OwnHeld c t st.edges (stand f fs work done) → Owns (lines_done c f) f.bindings → ((o : ℕ) → owed_in o work ≡ 0)
      → (x : BlockLine) → slice_get (frame_lines c f.kind f.block) f.number ≡ Some x
      → LineFits c t st h.steady.balance f.bindings x
  line_fits f fs work done held owns idle (says x) at =
      let vs = line_uses (says x) in
      deal_of_fits c t st h.steady x (used_objects f.bindings (says x)) (λ unskipped. used_live c t st f fs work done held owns idle h.steady.balance vs (3 - length vs) (fit_line c f (says x) own at).uses)
  line_fits f fs work done held owns idle (begins v) at = tt
  line_fits f fs work done held owns idle (claims k v) at = tt
  line_fits f fs work done held owns idle (packs u k v) at = tt

  -- the step of the frame on top gives up no slot
  top_up : (s : Stand) (d : Demand) (f : Frame) (fs : List Frame) → OwnHeld c t st.edges s → FramesFit c s.frames
      → work_demand (facts_of st) s.work ≡ None → s.frames ≡ f ∷ fs → FrameView c (facts_of st) t f d
      → GivesUpNone st (step_of c t st s.frames d).parts
  top_up s d f fs held fits idle e view =
      let held_top = subst (λ (gs : List Frame). OwnHeld c t st.edges (record { frames = gs; work = s.work; is_done = s.is_done })) e held in
      let fits_top = subst (FramesFit c) e fits in
      subst (λ (gs : List Frame). GivesUpNone st (step_of c t st gs d).parts) (sym e)
      (frame_up c t st h.steady.balance f fs d view (line_fits f fs s.work s.is_done held_top fits_top.0 (λ o. idle_owed (facts_of st) s.work o idle)))

  spent_up : (fs : List Frame) (i : ℕ) → GivesUpNone st (step_of c t st fs (spends i)).parts
  spent_up fs i = let fits = spend_places c st i in record { dropped = fits.shape.dropped; left = λ b f e. fits.left b f ∙ e }

  work_left_after : (fs : List Frame) (work : List Work) (d : Demand) → WorkView (facts_of st) work d → (b : ℕ)
      → 0 < times b st.parts.finalised → left_of st.parts.objects st.parts.dropped b ≡ []
      → left_of (step_of c t st fs d).parts.objects (step_of c t st fs d).parts.dropped b ≡ []
  work_left_after fs work _ (first_owes o first) b f e = e
  work_left_after fs work _ (first_spends i first) b f e = (spent_up fs i).left b f e
  work_left_after fs work _ (first_drops d k o left first) b f e = elim (eqb_tells d b) [
    | inl q ↦ absurd (none_left o (left_of st.parts.objects (d ∷ st.parts.dropped) d) (sym (left_here d k o st left) ∙ ap (λ (n : ℕ). left_of st.parts.objects st.parts.dropped n) q.1 ∙ e))
    | inr q ↦ let none : counted (eqb d b) ≡ 0 = ap counted q.0 in let same : times b (d ∷ st.parts.dropped) ≡ times b st.parts.dropped = omega (arith, none) in rw same e
  ]

  pub left_after : (s : Stand) (d : Demand) → OwnHeld c t st.edges s → FramesFit c s.frames
      → StandView c (facts_of st) t s d → (b : ℕ) → 0 < times b st.parts.finalised
      → left_of st.parts.objects st.parts.dropped b ≡ []
      → left_of (step_of c t st s.frames d).parts.objects (step_of c t st s.frames d).parts.dropped b ≡ []
  left_after s d held fits (of_work w view) = work_left_after s.frames s.work d view
  left_after s d held fits (of_frame f fs idle e view) = (top_up s d f fs held fits idle e view).left

  -- the places of the others stay, unless the body is the thread's own to give up
  pub others_stay : (d : Demand) → IsWorked st → StandView c (facts_of st) t (stand_at t st.stands) d → (u : ℕ)
      → (u ≡ t → ⊥) → Places (step_of c t st (frames_at t st) d).parts.dropped (stand_at u st.stands).work
  others_stay d k (of_frame f fs idle e view) u apart =
      subst (λ (xs : List ℕ). Places xs (stand_at u st.stands).work) (sym (top_up (stand_at t st.stands) d f fs (own_held c st t h.held) (h.frames t) idle e view).dropped) (k.places u)
  others_stay d k (of_work w view) u apart = by_work d w view
    where
      by_work : (d : Demand) → work_demand (facts_of st) (stand_at t st.stands).work ≡ Some d
          → WorkView (facts_of st) (stand_at t st.stands).work d
          → Places (step_of c t st (frames_at t st) d).parts.dropped (stand_at u st.stands).work
      by_work _ w (first_owes o first) = k.places u
      by_work _ w (first_spends i first) = subst (λ (xs : List ℕ). Places xs (stand_at u st.stands).work) (sym (spent_up (frames_at t st) i).dropped) (k.places u)
      by_work _ w (first_drops a n o left first) = drops_others t st a n o h.steady.balance k w u apart

pub demand_worked : (c : Script) (t : ℕ) (st : State) (d : Demand) → FitsByBlock c → IsSound c st → IsWorked st
    → demanded c st t ≡ Some d → IsWorked (done_by c t st d)
demand_worked c t st d own h k e =
    let s = stand_at t st.stands in
    let step = step_of c t st s.frames d in
    let view = stand_view c (facts_of st) t s d e in
    let a = action_in c (facts_of st) t s.frames d in
    let fits = demand_fits c t st d h.steady e (uses_at_most st t (owners_of a) a (step_answer step st) (demand_may c t st h own d e)) in
    let new = stand_after t d step st in
    let finals = step_finals step st in
    let after = work_after (facts_of st) s.frames d step.list s.work in
    let works = own_works c t st step.list d h.steady.balance k view in
    let sums = λ (b : ℕ). summed-with (waits b) t new st.stands refl in
    let whole = λ (b : ℕ). waits-bodies b finals after in
    let other = others_stay c t st own h d k view in
    record {
      most = λ b. omega (arith, k.most b, sums b, whole b, works.waits b, stopped-summed b step.stops (with_stand t new st.stands), times-append b finals step.parts.finalised, ap (times b) fits.finalised);
      left = λ b final none.
          let most = summed-most (waits b) t (with_stand t new st.stands) refl in
          let here = ap (waits b) (at_own blank t new st.stands) in
          let nothing : times b finals + waits_in b after ≡ 0 = omega (arith, none, most, here, whole b, stopped-summed b step.stops (with_stand t new st.stands)) in
          let before : 0 < times b st.parts.finalised = omega (arith, final, nothing, times-append b finals step.parts.finalised, ap (times b) fits.finalised) in
          left_after c t st own h s d (own_held c st t h.held) (h.frames t) view b before (elim (cases_lt 0 (passed (facts_of st) b s.work)) [
            | inl some ↦ passed_left st b before s.work (k.places t) some
            | inr zero_passed ↦ k.left b before (omega (arith, none, nothing, zero_passed, sums b, whole b, works.waits b, stopped-summed b step.stops (with_stand t new st.stands)))
          ]);
      places = λ u. elim (eqb_tells u t) [
        | inl q ↦ subst (λ (n : ℕ). Places step.parts.dropped (stand_at n (stopped_at step.stops (with_stand t new st.stands))).work) (sym q.1)
            (subst (Places step.parts.dropped) (sym (stopped_work step.stops t (with_stand t new st.stands) ∙ ap (λ (x : Stand). x.work) (at_own blank t new st.stands)))
            (places-bodies step.parts.dropped finals after (λ b some. let live = final_live st step.flow b h.steady.balance fits.there some in fits.undropped b live ∙ h.steady.undropped b live) works.places))
        | inr q ↦ subst (Places step.parts.dropped) (sym (stopped_work step.stops u (with_stand t new st.stands) ∙ ap (λ (x : Stand). x.work) (at_other blank u t new st.stands q.1))) (other u q.1)
      ];
    }

acted_worked : (c : Script) (t : ℕ) (st : State) (d : Option Demand) → FitsByBlock c → IsSound c st → IsWorked st
    → demanded c st t ≡ d → IsWorked (acted c t st d)
acted_worked c t st None own h k e = k
acted_worked c t st (Some d) own h k e = demand_worked c t st d own h k e

pub entry_worked : (c : Script) (t : ℕ) (st : State) (a : Action) → FitsByBlock c → IsSound c st → IsWorked st
    → IsWorked (after_action c t st a)
entry_worked c t st (actions.Tick n) own h k = record { most = k.most; left = k.left; places = k.places }
entry_worked c t st actions.Stall own h k = k
entry_worked c t st a own h k = acted_worked c t st (demanded c st t) own h k refl

worked_from : (c : Script) (st : State) (es : List Entry) → FitsByBlock c → IsSound c st → IsWorked st
    → IsWorked (state_from c st es)
worked_from c st [] own h k = k
worked_from c st (e ∷ es) own h k = worked_from c (after_action c e.thread st e.action) es own (entry_sound c e.thread st e.action own h) (entry_worked c e.thread st e.action own h k)

opening_waits : (b : ℕ) (ts : List ℕ) → summed (waits b) (map opening_stand ts) ≡ 0
opening_waits b [] = refl
opening_waits b (t ∷ ts) = omega (arith, opening_waits b ts)

pub start_worked : (c : Script) → IsWorked (start c)
start_worked c = record {
  most = λ b. omega (arith, opening_waits b (threads_of c));
  left = λ b some none. absurd (omega arith);
  places = λ t. subst (Places []) (sym (opening_work (threads_of c) t)) tt;
}

pub worked_along : (c : Script) (es : List Entry) → FitsByBlock c → IsWorked (After c es)
worked_along c es own = worked_from c (start c) es own (start_sound c) (start_worked c)

-- where no thread has work left, no finalised body has a slot left
none_wait : (b : ℕ) (ss : List Stand) → AllIdle ss → summed (waits b) ss ≡ 0
none_wait b [] h = refl
none_wait b (s ∷ ss) h = omega (arith, ap (waits_in b) h.0, none_wait b ss h.1)

pub given_up_along : (c : Script) (es : List Entry) → FitsByBlock c → AllIdle (After c es).stands
    → HasGivenUp (After c es)
given_up_along c es own idle b final = (worked_along c es own).left b final (none_wait b (After c es).stands idle)
