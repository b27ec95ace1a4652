-- What frames and work hold where one of them changes.
use Rattle.std.proofs.Common.{◌++◌, ◌+◌, ◌∙◌, ◌∷◌, ◌≡◌, ◌≤◌, Bool, List, None, Option, Some, [], ap, arith, cond, eqb, false, inl, inr, length, map, refl, subst, sym, true, ℕ}
use Rattle.std.proofs.lemmas.Bool.Decides.{eqb_tells, nat_tests}
use Rattle.std.specs.Prelude.{option_to_list}
use Rattle.cf_syntax.specs.BlockLines.{BlockLine, says}
use Rattle.cf_syntax.specs.Owned.{one_of}
use Rattle.cf_syntax.specs.declared.script.Script.{Script}
use Rattle.cf_syntax.specs.declared.statement.Statement.TheVariants as forms
use Rattle.cf_contents.specs.Contents.{times}
use Rattle.cf_graph.proofs.Flows.{one_own, other_weigh}
use Rattle.cf_graph.specs.Edges.{Reference, counted, held_by, held_if, one, weigh}
use Rattle.cf_graph.specs.Holders.{Holder, callout, code_of, variable}
use Rattle.cf_next.specs.Advance.{bodies_of, deadline_of, kind_item, run_frame, run_frames}
use Rattle.cf_next.specs.Stands.{Frame, Work, release_of}
use Rattle.cf_model.proofs.Owning.{variable_weigh}
use Rattle.cf_model.specs.Tokens.{callouts_hold, frame_holds, frames_hold, one_if, owed_in}

pub held_if_apart : (r : Reference) (k : Holder) (object : Option ℕ) → (r.holder ≡ k → ⊥)
    → weigh (one r) (held_if k object) ≡ 0
held_if_apart r k object h = other_weigh r k (option_to_list object) h

-- a variable of a frame, at its depth alone
pub at_depth : (t d e v w o : ℕ) (object : Option ℕ)
    → weigh (one (held_by (variable t d v) o)) (held_if (variable t e w) object) ≡ cond (eqb e d) (one_if object o (one_of v w)) 0
at_depth t d e v w o object = elim (eqb_tells e d) [
  | inl q ↦ rw q.0 (subst (λ (n : ℕ). weigh (one (held_by (variable t n v) o)) (held_if (variable t e w) object) ≡ one_if object o (one_of v w)) q.1 (variable_weigh t e v w o object))
  | inr q ↦ rw q.0 (held_if_apart (held_by (variable t d v) o) (variable t e w) object (λ x. q.1 (sym (ap (λ k. (code_of k).second) x))))
]

-- a callout, at its depth alone
pub callout_at : (t d e o : ℕ) (object : Option ℕ)
    → weigh (one (held_by (callout t d) o)) (held_if (callout t e) object) ≡ cond (eqb e d) (one_if object o 1) 0
callout_at t d e o None = by (eqb e d)
  where
    by : (b : Bool) → ◌≡◌ {A = ℕ} 0 (cond b 0 0)
    by true = refl
    by false = refl
callout_at t d e o (Some x) = elim (eqb_tells e d) [
  | inl q ↦ rw q.0 (omega (arith, subst (λ (n : ℕ). one (held_by (callout t n) o) (held_by (callout t e) x) ≡ counted (eqb x o)) q.1 (one_own (callout t e) o x)))
  | inr q ↦ rw q.0 (held_if_apart (held_by (callout t d) o) (callout t e) (Some x) (λ x. q.1 (sym (ap (λ k. (code_of k).second) x))))
]

-- ---- frames

-- no frame is as deep
pub holds_beyond : (c : Script) (fs : List Frame) (d v o : ℕ) → length fs ≤ d → frames_hold c fs d v o ≡ 0
holds_beyond c [] d v o h = refl
holds_beyond c (f ∷ fs) d v o h =
    let other : eqb (length fs) d ≡ false = grind (arith, nat_tests) in
    rw other (holds_beyond c fs d v o (omega (arith, h)))

pub calls_beyond : (fs : List Frame) (d o : ℕ) → length fs ≤ d → callouts_hold fs d o ≡ 0
calls_beyond [] d o h = refl
calls_beyond (f ∷ fs) d o h =
    let other : eqb (length fs) d ≡ false = grind (arith, nat_tests) in
    rw other (calls_beyond fs d o (omega (arith, h)))

-- one frame in place of another
pub top_holds : (c : Script) (f g : Frame) (fs : List Frame) (won lost : ℕ → ℕ → ℕ)
    → ((v o : ℕ) → frame_holds c g v o + lost v o ≡ frame_holds c f v o + won v o) → (d v o : ℕ)
    → frames_hold c (g ∷ fs) d v o + cond (eqb (length fs) d) (lost v o) 0 ≡ frames_hold c (f ∷ fs) d v o + cond (eqb (length fs) d) (won v o) 0
top_holds c f g fs won lost h d v o = by (eqb (length fs) d)
  where
    by : (b : Bool)
        → cond b (frame_holds c g v o) (frames_hold c fs d v o) + cond b (lost v o) 0 ≡ cond b (frame_holds c f v o) (frames_hold c fs d v o) + cond b (won v o) 0
    by true = h v o
    by false = refl

pub top_calls : (f g : Frame) (fs : List Frame) → kind_item g.kind ≡ kind_item f.kind → (d o : ℕ)
    → callouts_hold (g ∷ fs) d o ≡ callouts_hold (f ∷ fs) d o
top_calls f g fs e d o = rw e refl

-- a frame that holds nothing is put on top
pub blank_holds : (c : Script) (g : Frame) (fs : List Frame) → ((v o : ℕ) → frame_holds c g v o ≡ 0) → (d v o : ℕ)
    → frames_hold c (g ∷ fs) d v o ≡ frames_hold c fs d v o
blank_holds c g fs h d v o = elim (eqb_tells (length fs) d) [
  | inl e ↦ rw e.0 (h v o ∙ sym (holds_beyond c fs d v o (omega (arith, e.1))))
  | inr e ↦ rw e.0 refl
]

pub blank_calls : (g : Frame) (fs : List Frame) → kind_item g.kind ≡ None → (d o : ℕ)
    → callouts_hold (g ∷ fs) d o ≡ callouts_hold fs d o
blank_calls g fs h d o = elim (eqb_tells (length fs) d) [
  | inl e ↦ rw (e.0, h) (sym (calls_beyond fs d o (omega (arith, e.1))))
  | inr e ↦ rw e.0 refl
]

pub run_frames_hold : (c : Script) (time : ℕ) (x : BlockLine) (b : Bool) (fs : List Frame) (d v o : ℕ)
    → frames_hold c (run_frames time x b ++ fs) d v o ≡ frames_hold c fs d v o
run_frames_hold c time (says (forms.Run m limit once)) true fs d v o = blank_holds c (run_frame m (deadline_of time limit) once) fs (λ v o. refl) d v o
run_frames_hold c time x b fs d v o = refl

pub run_frames_call : (time : ℕ) (x : BlockLine) (b : Bool) (fs : List Frame) (d o : ℕ)
    → callouts_hold (run_frames time x b ++ fs) d o ≡ callouts_hold fs d o
run_frames_call time (says (forms.Run m limit once)) true fs d o = blank_calls (run_frame m (deadline_of time limit) once) fs refl d o
run_frames_call time x b fs d o = refl

-- ---- work

pub owed-bodies : (o : ℕ) (bs : List ℕ) (work : List Work) → owed_in o (bodies_of bs ++ work) ≡ owed_in o work
owed-bodies o [] work = refl
owed-bodies o (b ∷ bs) work = owed-bodies o bs work

pub owed-releases : (o : ℕ) (gs : List ℕ) (work : List Work)
    → owed_in o (map release_of gs ++ work) ≡ times o gs + owed_in o work
owed-releases o [] work = omega arith
owed-releases o (g ∷ gs) work = omega (arith, owed-releases o gs work)
