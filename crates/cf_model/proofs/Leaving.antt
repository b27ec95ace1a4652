-- Steps that no line writes keep what their thread's holders hold: work, calls and returns, phases and ends.
use Rattle.std.proofs.Common.{◌++◌, ◌+◌, ◌-◌, ◌∷◌, ◌≡◌, ◌≤◌, Bool, List, None, Option, Some, [], ap, append-nil, arith, cond, eqb, false, inl, inr, length, map, refl, subst, suc, sym, take, true, zero, ℕ}
use Rattle.std.proofs.lemmas.Bool.Decides.{eqb_tells, nat_tests}
use Rattle.cf_ids.specs.declared.answer.Answer.{Answer}
use Rattle.rl_base.specs.Modes.{places}
use Rattle.rl_turn.specs.declared.phases.Phase.{Phase}
use Rattle.cf_syntax.specs.BlockLines.{BlockLine}
use Rattle.cf_syntax.specs.Owned.{given, one_of, released}
use Rattle.cf_syntax.specs.declared.script.Script.{Script}
use Rattle.cf_contents.specs.Contents.{times}
use Rattle.cf_graph.proofs.Counts.{weigh-append}
use Rattle.cf_graph.proofs.Flows.{one_own}
use Rattle.cf_graph.specs.Edges.{Reference, counted, held_by, held_if, one, same, weigh}
use Rattle.cf_graph.specs.Flows.{grows, shrinks, still, won_by_moves}
use Rattle.cf_graph.specs.Holders.{Holder, callout, code_of, in_common, in_mode, owed, parcel, slot, variable}
use Rattle.cf_next.specs.Advance.{advanced, call_done, handler_frame, is_spent, kind_called, kind_item, phase_done, releases_of, return_work, spend_work}
use Rattle.cf_next.specs.Demands.{calls, closes, drops, ends, enters, frame_lines, owes, returns, spends, work_left}
use Rattle.cf_next.specs.Facts.{Callout, Facts}
use Rattle.cf_next.specs.Stands.{Callee, Frame, Kind, Role, Stand, Turn, Work, item_of, look, of_block, of_handler, of_run, release_of, slots_of, spend_of}
use Rattle.cf_next.specs.Turns.{kind_after}
use Rattle.cf_model.proofs.Keeping.{KeepsOwn, OwnHeld, stand}
use Rattle.cf_model.proofs.OwnLaws.{own_all}
use Rattle.cf_model.proofs.Owning.{one_if-none}
use Rattle.cf_model.proofs.Places.{AllPlaces, kinds_apart, moves_lost, moves_other, moves_won, objects_in, places_weigh}
use Rattle.cf_model.proofs.Stepping.{at_depth, blank_holds, callout_at, calls_beyond, held_if_apart, holds_beyond, owed-bodies, owed-releases}
use Rattle.cf_model.specs.Tokens.{callouts_hold, frame_holds, frames_hold, one_if, owed_in}
use Rattle.cf_model.specs.Own.{moves_to, own_references}
use Rattle.cf_model.specs.Steps.{call_references}

-- frames that hold the same
pub top_same : (c : Script) (f g : Frame) (fs : List Frame) → ((v o : ℕ) → frame_holds c g v o ≡ frame_holds c f v o)
    → (d v o : ℕ) → frames_hold c (g ∷ fs) d v o ≡ frames_hold c (f ∷ fs) d v o
top_same c f g fs h d v o = ap (λ (n : ℕ). cond (eqb (length fs) d) n (frames_hold c fs d v o)) (h v o)

pub called_lines : (c : Script) (role : Role) (k : Kind) (b : ℕ)
    → frame_lines c (kind_called role k) b ≡ frame_lines c k b
called_lines c role of_block b = refl
called_lines c role (of_handler k) b = refl
called_lines c role (of_run r) b = refl

called_item : (role : Role) (k : Kind) → kind_item (kind_called role k) ≡ kind_item k
called_item role of_block = refl
called_item role (of_handler k) = refl
called_item role (of_run r) = refl

pub phase_lines : (c : Script) (facts : Facts) (t : ℕ) (p : Phase) (k : Kind) (b : ℕ)
    → frame_lines c (kind_after facts t p k) b ≡ frame_lines c k b
phase_lines c facts t p of_block b = refl
phase_lines c facts t p (of_handler k) b = refl
phase_lines c facts t p (of_run r) b = refl

phase_item : (facts : Facts) (t : ℕ) (p : Phase) (k : Kind) → kind_item (kind_after facts t p k) ≡ kind_item k
phase_item facts t p of_block = refl
phase_item facts t p (of_handler k) = refl
phase_item facts t p (of_run r) = refl

same_lines : (c : Script) (f : Frame) (xs : List BlockLine) (v o : ℕ) → xs ≡ frame_lines c f.kind f.block
    → one_if (look v f.bindings) o (given v (take f.number xs) - released v (take f.number xs)) ≡ frame_holds c f v o
same_lines c f xs v o e = rw e refl

-- ---- work

module _ (c : Script) (facts : Facts) (t : ℕ) (old : Stand) where
  abbrev left : List Work
  left = work_left facts old.work

  pub owes_keeps : (o : ℕ) (answer : Answer) (finals list : List ℕ)
      → ((p : ℕ) → owed_in p old.work ≡ counted (eqb o p) + owed_in p left)
      → KeepsOwn c t old (shrinks (held_by (owed t) o)) (advanced facts t (owes o) answer finals list old)
  owes_keeps o answer finals list first = record {
    variables = λ d v p. refl;
    callouts = λ d p. refl;
    owed = λ p. omega (arith, owed-bodies p finals left, first p, one_own (owed t) p o);
  }

  pub drops_keeps : (b k o : ℕ) (answer : Answer) (finals list : List ℕ)
      → ((q : ℕ) → owed_in q old.work ≡ owed_in q left)
      → KeepsOwn c t old (shrinks (held_by (slot b) o)) (advanced facts t (drops b k o) answer finals list old)
  drops_keeps b k o answer finals list first = record {
    variables = λ d v q. refl;
    callouts = λ d q. refl;
    owed = λ q. omega (arith, owed-bodies q finals (slots_of b (k + 1) ∷ left), first q);
  }

  pub spends_keeps : (i : ℕ) (answer : Answer) (finals list : List ℕ) (ins outs : List Reference) → AllPlaces ins
      → AllPlaces outs → list ≡ objects_in outs
      → ((q : ℕ) → owed_in q old.work ≡ owed_in q left)
      → KeepsOwn c t old (grows ins (moves_to (owed t) outs)) (advanced facts t (spends i) answer finals list old)
  spends_keeps i answer finals list ins outs into places same first = record {
    variables = λ d v q. omega (arith, places_weigh (held_by (variable t d v) q) ins (λ x. x) into, moves_other (owed t) (held_by (variable t d v) q) outs (kinds_apart (variable t d v) (owed t) refl), moves_lost (owed t) (one (held_by (variable t d v) q)) outs, places_weigh (held_by (variable t d v) q) outs (λ x. x) places);
    callouts = λ d q. omega (arith, places_weigh (held_by (callout t d) q) ins (λ x. x) into, moves_other (owed t) (held_by (callout t d) q) outs (kinds_apart (callout t d) (owed t) refl), moves_lost (owed t) (one (held_by (callout t d) q)) outs, places_weigh (held_by (callout t d) q) outs (λ x. x) places);
    owed = λ q. omega (arith, owed-bodies q finals (map release_of list ++ left), owed-releases q list left, first q, moves_won (owed t) q outs, moves_lost (owed t) (one (held_by (owed t) q)) outs, places_weigh (held_by (owed t) q) outs (λ x. x) places, places_weigh (held_by (owed t) q) ins (λ x. x) into, ap (times q) same);
  }

-- ---- steps of the frame on top

-- nothing is done to references, and nothing was owed
pub still_keeps : (c : Script) (t : ℕ) (old new : Stand)
    → ((d v o : ℕ) → frames_hold c new.frames d v o ≡ frames_hold c old.frames d v o)
    → ((d o : ℕ) → callouts_hold new.frames d o ≡ callouts_hold old.frames d o) → ((o : ℕ) → owed_in o new.work ≡ owed_in o old.work)
    → KeepsOwn c t old still new
still_keeps c t old new vs cs ws = record {
  variables = λ d v o. omega (arith, vs d v o);
  callouts = λ d o. omega (arith, cs d o);
  owed = λ o. omega (arith, ws o);
}

module _ (c : Script) (facts : Facts) (t : ℕ) (f : Frame) (fs : List Frame) (work : List Work) (done : Bool) (idle : (o : ℕ) → owed_in o work ≡ 0) where
  abbrev old : Stand
  old = stand f fs work done

  pub phase_keeps : (q : Phase) (answer : Answer) (finals list : List ℕ)
      → KeepsOwn c t old still (advanced facts t (enters q) answer finals list old)
  phase_keeps q answer finals list =
      still_keeps c t old (advanced facts t (enters q) answer finals list old)
      (top_same c f (phase_done facts t q list f) fs (λ v o. same_lines c f (frame_lines c (kind_after facts t q f.kind) f.block) v o (phase_lines c facts t q f.kind f.block)))
      (λ d o. rw (phase_item facts t q f.kind) refl)
      (λ o. omega (arith, idle o, owed-bodies o finals []))

  pub end_keeps : (answer : Answer) (finals list : List ℕ)
      → KeepsOwn c t old still (advanced facts t ends answer finals list old)
  end_keeps answer finals list =
      still_keeps c t old (advanced facts t ends answer finals list old) (λ d v o. refl) (λ d o. refl) (λ o. omega (arith, idle o, owed-bodies o finals []))

  -- a frame of a run holds nothing
  run_blank : (r : Turn) → f.kind ≡ of_run r → (v o : ℕ) → frame_holds c f v o ≡ 0
  run_blank r e v o = rw e (by f.number)
    where
      by : (n : ℕ) → one_if (look v f.bindings) o (given v (take n []) - released v (take n [])) ≡ 0
      by zero = one_if-none (look v f.bindings) o
      by (suc n) = one_if-none (look v f.bindings) o

  pub close_keeps : (r : Turn) (answer : Answer) (finals list : List ℕ) → f.kind ≡ of_run r
      → KeepsOwn c t old still (advanced facts t closes answer finals list old)
  close_keeps r answer finals list e =
      still_keeps c t old (advanced facts t closes answer finals list old)
      (λ d v o. sym (blank_holds c f fs (run_blank r e) d v o))
      (λ d o. sym (gone_calls d o))
      (λ o. omega (arith, idle o, owed-bodies o finals []))
    where
      gone_calls : (d o : ℕ) → callouts_hold (f ∷ fs) d o ≡ callouts_hold fs d o
      gone_calls d o = elim (eqb_tells (length fs) d) [
        | inl q ↦ rw (q.0, e) (sym (calls_beyond fs d o (omega (arith, q.1))))
        | inr q ↦ rw q.0 refl
      ]

-- ---- calls

-- what a handler's frame holds as it opens
opening_holds : (c : Script) (k : Callee) (called : Callout) (v o : ℕ)
    → frame_holds c (handler_frame k called) v o ≡ one_if called.info o (one_of v 0)
opening_holds c k called v o = elim (eqb_tells 0 v) [
  | inl e ↦ rw (e.0, ← e.1) refl
  | inr e ↦
      let none_here : one_of v 0 ≡ 0 = grind (arith, nat_tests) in
      rw (e.0, none_here) (sym (one_if-none called.info o))
]

called_calls : (c : Script) (k : Callee) (called : Callout) (g : Frame) (fs : List Frame) (d o : ℕ)
    → callouts_hold (handler_frame k called ∷ g ∷ fs) d o ≡ callouts_hold (g ∷ fs) d o + cond (eqb (suc (length fs)) d) (one_if (item_of k) o 1) 0
called_calls c k called g fs d o = elim (eqb_tells (suc (length fs)) d) [
  | inl e ↦ rw e.0 (omega (arith, calls_beyond (g ∷ fs) d o (omega (arith, e.1))))
  | inr e ↦ rw e.0 (omega arith)
]

called_holds : (c : Script) (k : Callee) (called : Callout) (g : Frame) (fs : List Frame) (d v o : ℕ)
    → frames_hold c (handler_frame k called ∷ g ∷ fs) d v o ≡ frames_hold c (g ∷ fs) d v o + cond (eqb (suc (length fs)) d) (one_if called.info o (one_of v 0)) 0
called_holds c k called g fs d v o = elim (eqb_tells (suc (length fs)) d) [
  | inl e ↦ rw e.0 (omega (arith, holds_beyond c (g ∷ fs) d v o (omega (arith, e.1)), opening_holds c k called v o))
  | inr e ↦ rw e.0 (omega arith)
]

pub calls_keeps : (c : Script) (facts : Facts) (t : ℕ) (f : Frame) (fs : List Frame) (work : List Work) (done : Bool)
    (k : Callee) (called : Callout) (answer : Answer) (finals list : List ℕ)
    → ((o : ℕ) → owed_in o work ≡ 0)
    → KeepsOwn c t (stand f fs work done) (grows (call_references t (suc (length fs)) called.info (item_of k)) []) (advanced facts t (calls k called) answer finals list (stand f fs work done))
calls_keeps c facts t f fs work done k called answer finals list idle =
    let e = suc (length fs) in
    let g = call_done facts t k.role f in
    let item = item_of k in
    let vs = held_if (variable t e 0) called.info in
    let cs = held_if (callout t e) item in
    record {
      variables = λ d v o.
          omega (
            arith,
            called_holds c k called g fs d v o,
            top_same c f g fs (λ w q. same_lines c f (frame_lines c (kind_called k.role f.kind) f.block) w q (called_lines c k.role f.kind f.block)) d v o,
            weigh-append (one (held_by (variable t d v) o)) vs cs,
            at_depth t d e v 0 o called.info,
            held_if_apart (held_by (variable t d v) o) (callout t e) item (kinds_apart (variable t d v) (callout t e) refl),
          );
      callouts = λ d o.
          omega (
            arith,
            called_calls c k called g fs d o,
            ap (λ (i : Option ℕ). cond (eqb (length fs) d) (one_if i o 1) (callouts_hold fs d o)) (called_item k.role f.kind),
            weigh-append (one (held_by (callout t d) o)) vs cs,
            callout_at t d e o item,
            held_if_apart (held_by (callout t d) o) (variable t e 0) called.info (kinds_apart (callout t d) (variable t e 0) refl),
          );
      owed = λ o.
          omega (
            arith,
            idle o,
            owed-bodies o finals [],
            weigh-append (one (held_by (owed t) o)) vs cs,
            held_if_apart (held_by (owed t) o) (variable t e 0) called.info (kinds_apart (owed t) (variable t e 0) refl),
            held_if_apart (held_by (owed t) o) (callout t e) item (kinds_apart (owed t) (callout t e) refl),
          );
    }

-- ---- returns

owed_moves : (t o : ℕ) (h : Holder) (object : Option ℕ) (rs : List Reference)
    → won_by_moves (one (held_by (owed t) o)) (moves_to (owed t) (held_if h object ++ rs)) ≡ one_if object o 1 + won_by_moves (one (held_by (owed t) o)) (moves_to (owed t) rs)
owed_moves t o h None rs = omega arith
owed_moves t o h (Some x) rs = omega (arith, one_own (owed t) o x)

owed_releases : (o : ℕ) (object : Option ℕ) (work : List Work)
    → owed_in o (releases_of object ++ work) ≡ one_if object o 1 + owed_in o work
owed_releases o None work = omega arith
owed_releases o (Some x) work = refl

owed_spend : (facts : Facts) (k : Kind) (o : ℕ) (work : List Work)
    → owed_in o (spend_work facts k ++ work) ≡ owed_in o work
owed_spend facts of_block o rest = refl
owed_spend facts (of_run r) o rest = refl
owed_spend facts (of_handler q) o rest = by (is_spent facts q.role q.number)
  where
    by : (b : Bool) → owed_in o (cond b (spend_of q.number ∷ []) [] ++ rest) ≡ owed_in o rest
    by true = refl
    by false = refl

-- a handler's frame at its end has one reference to its info, and its callout one to its item
module _ (c : Script) (facts : Facts) (t : ℕ) (es : List Reference) (f : Frame) (fs : List Frame) (work : List Work) (done : Bool) (held : OwnHeld c t es (stand f fs work done)) (balance : (v o : ℕ) → frame_holds c f v o ≡ one_if (look 0 f.bindings) o (one_of v 0)) where
  abbrev e : ℕ
  e = length fs

  abbrev info : Option ℕ
  info = look 0 f.bindings

  abbrev item : Option ℕ
  item = kind_item f.kind

  abbrev vs : List Reference
  vs = held_if (variable t e 0) info

  abbrev cs : List Reference
  cs = held_if (callout t e) item

  popped_holds : (d v o : ℕ)
      → frames_hold c (f ∷ fs) d v o ≡ frames_hold c fs d v o + cond (eqb e d) (one_if info o (one_of v 0)) 0
  popped_holds d v o = elim (eqb_tells (length fs) d) [
    | inl q ↦ rw q.0 (omega (arith, holds_beyond c fs d v o (omega (arith, q.1)), balance v o))
    | inr q ↦ rw q.0 (omega arith)
  ]

  popped_calls : (d o : ℕ) → callouts_hold (f ∷ fs) d o ≡ callouts_hold fs d o + cond (eqb e d) (one_if item o 1) 0
  popped_calls d o = elim (eqb_tells (length fs) d) [
    | inl q ↦ rw q.0 (omega (arith, calls_beyond fs d o (omega (arith, q.1))))
    | inr q ↦ rw q.0 (omega arith)
  ]

  both : (g : Reference → ℕ) → weigh g (call_references t e info item) ≡ weigh g vs + weigh g cs
  both g = weigh-append g vs cs

  none_there : (h : Holder) (o : ℕ) → (h ≡ variable t e 0 → ⊥) → (h ≡ callout t e → ⊥)
      → weigh (one (held_by h o)) (call_references t e info item) ≤ weigh (one (held_by h o)) es
  none_there h o a b = omega (arith, both (one (held_by h o)), held_if_apart (held_by h o) (variable t e 0) info a, held_if_apart (held_by h o) (callout t e) item b)

  -- both are there
  references_there : (h : Holder) (o : ℕ)
      → weigh (one (held_by h o)) (call_references t e info item) ≤ weigh (one (held_by h o)) es
  references_there (variable u d v) o = elim (eqb_tells t u) [
    | inl q ↦ subst (λ (w : ℕ). weigh (one (held_by (variable w d v) o)) (call_references t e info item) ≤ weigh (one (held_by (variable w d v) o)) es) q.1
        (omega (arith, both (one (held_by (variable t d v) o)), at_depth t d e v 0 o info, held_if_apart (held_by (variable t d v) o) (callout t e) item (kinds_apart (variable t d v) (callout t e) refl), held.variables d v o, popped_holds d v o))
    | inr q ↦ none_there (variable u d v) o (λ x. q.1 (sym (ap (λ k. (code_of k).first) x))) (kinds_apart (variable u d v) (callout t e) refl)
  ]
  references_there (callout u d) o = elim (eqb_tells t u) [
    | inl q ↦ subst (λ (w : ℕ). weigh (one (held_by (callout w d) o)) (call_references t e info item) ≤ weigh (one (held_by (callout w d) o)) es) q.1
        (omega (arith, both (one (held_by (callout t d) o)), callout_at t d e o item, held_if_apart (held_by (callout t d) o) (variable t e 0) info (kinds_apart (callout t d) (variable t e 0) refl), held.callouts d o, popped_calls d o))
    | inr q ↦ none_there (callout u d) o (kinds_apart (callout u d) (variable t e 0) refl) (λ x. q.1 (sym (ap (λ k. (code_of k).first) x)))
  ]
  references_there (owed u) o = none_there (owed u) o (kinds_apart (owed u) (variable t e 0) refl) (kinds_apart (owed u) (callout t e) refl)
  references_there (parcel u d) o = none_there (parcel u d) o (kinds_apart (parcel u d) (variable t e 0) refl) (kinds_apart (parcel u d) (callout t e) refl)
  references_there (slot b) o = none_there (slot b) o (kinds_apart (slot b) (variable t e 0) refl) (kinds_apart (slot b) (callout t e) refl)
  references_there (in_mode u m) o = none_there (in_mode u m) o (kinds_apart (in_mode u m) (variable t e 0) refl) (kinds_apart (in_mode u m) (callout t e) refl)
  references_there (in_common u) o = none_there (in_common u) o (kinds_apart (in_common u) (variable t e 0) refl) (kinds_apart (in_common u) (callout t e) refl)

  -- so they are what is taken
  pub return_references : own_references t (call_references t e info item) es ≡ call_references t e info item
  return_references = own_all t (call_references t e info item) es (λ r. references_there r.holder r.object)

  return_flow_keeps : (answer : Answer) (finals list : List ℕ) → ((o : ℕ) → owed_in o work ≡ 0)
      → KeepsOwn c t (stand f fs work done) (grows [] (moves_to (owed t) (call_references t e info item))) (advanced facts t returns answer finals list (stand f fs work done))
  return_flow_keeps answer finals list idle = record {
    variables = λ d v o.
        omega (
          arith,
          popped_holds d v o,
          moves_lost (owed t) (one (held_by (variable t d v) o)) (call_references t e info item),
          moves_other (owed t) (held_by (variable t d v) o) (call_references t e info item) (kinds_apart (variable t d v) (owed t) refl),
          both (one (held_by (variable t d v) o)),
          at_depth t d e v 0 o info,
          held_if_apart (held_by (variable t d v) o) (callout t e) item (kinds_apart (variable t d v) (callout t e) refl),
        );
    callouts = λ d o.
        omega (
          arith,
          popped_calls d o,
          moves_lost (owed t) (one (held_by (callout t d) o)) (call_references t e info item),
          moves_other (owed t) (held_by (callout t d) o) (call_references t e info item) (kinds_apart (callout t d) (owed t) refl),
          both (one (held_by (callout t d) o)),
          callout_at t d e o item,
          held_if_apart (held_by (callout t d) o) (variable t e 0) info (kinds_apart (callout t d) (variable t e 0) refl),
        );
    owed = λ o.
        omega (
          arith,
          idle o,
          owed-bodies o finals (return_work facts (f ∷ fs)),
          owed_releases o info (spend_work facts f.kind ++ releases_of item),
          owed_spend facts f.kind o (releases_of item),
          owed_releases o item [],
          ap (owed_in o) (append-nil (releases_of item)),
          moves_lost (owed t) (one (held_by (owed t) o)) (call_references t e info item),
          both (one (held_by (owed t) o)),
          held_if_apart (held_by (owed t) o) (variable t e 0) info (kinds_apart (owed t) (variable t e 0) refl),
          held_if_apart (held_by (owed t) o) (callout t e) item (kinds_apart (owed t) (callout t e) refl),
          owed_moves t o (variable t e 0) info cs,
          owed_moves t o (callout t e) item [],
          ap (λ (rs : List Reference). won_by_moves (one (held_by (owed t) o)) (moves_to (owed t) rs)) (append-nil cs),
        );
  }

  pub returns_keeps : (answer : Answer) (finals list : List ℕ) → ((o : ℕ) → owed_in o work ≡ 0)
      → KeepsOwn c t (stand f fs work done) (grows [] (moves_to (owed t) (own_references t (call_references t e info item) es))) (advanced facts t returns answer finals list (stand f fs work done))
  returns_keeps answer finals list idle =
      subst (λ (rs : List Reference). KeepsOwn c t (stand f fs work done) (grows [] (moves_to (owed t) rs)) (advanced facts t returns answer finals list (stand f fs work done))) (sym return_references)
      (return_flow_keeps answer finals list idle)
