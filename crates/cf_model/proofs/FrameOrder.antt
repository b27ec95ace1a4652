-- The frames of a stand are in order: the variables of each own what its lines gave them. Each step keeps it.
use Rattle.std.proofs.Common.{◌++◌, ◌+◌, ◌-◌, ◌<◌, ◌∙◌, ◌∷◌, ◌≡◌, Bool, List, None, Option, Some, [], ap, append-nil, append_assoc, arith, cond, eqb, false, ltb, map, refl, suc, sym, take, true, zero, ℕ}
use Rattle.std.proofs.lemmas.Bool.{eqb-true, ltb-true}
use Rattle.std.proofs.lemmas.Bool.Decides.{nat_tests}
use Rattle.std.specs.Prelude.{slice_get}
use Rattle.cf_ids.specs.declared.answer.Answer.{Answer}
use Rattle.rl_turn.specs.declared.phases.Phase.{Phase}
use Rattle.cf_syntax.proofs.BlockLaws.{none_first}
use Rattle.cf_syntax.specs.BlockLines.{BlockLine, begins, claims, handler_lines, line_mentions, line_ownership, line_uses, packs, says}
use Rattle.cf_syntax.specs.Mentions.{bound_in, mentions_of, ownership_of, present, used}
use Rattle.cf_syntax.specs.Owned.{FitsByBlock, bound, given, line_fault, lines_fault, mention_fault, mentions_fault, one_of, released, unbound_fault, unowned_fault}
use Rattle.cf_syntax.specs.declared.mention.Mention.{Mention}
use Rattle.cf_syntax.specs.declared.mention.Mention.TheVariants as mentions
use Rattle.cf_syntax.specs.declared.refusal.Reason.{Reason}
use Rattle.cf_syntax.specs.declared.refusal.Reason.TheVariants.{Redefined, Undefined, Unowned}
use Rattle.cf_syntax.specs.declared.script.Script.{Script}
use Rattle.cf_syntax.specs.declared.statement.Statement.{Statement}
use Rattle.cf_syntax.specs.declared.statement.Statement.TheVariants as forms
use Rattle.cf_next.specs.Advance.{call_done, handler_frame, kind_called, phase_done, run_frames}
use Rattle.cf_next.specs.Demands.{frame_lines}
use Rattle.cf_next.specs.Facts.{Callout, Facts}
use Rattle.cf_next.specs.Stands.{Binding, Callee, Frame, Kind, Role, look, of_block, of_handler, of_run, stop_frames}
use Rattle.cf_next.specs.Turns.{kind_after}
use Rattle.cf_model.proofs.Leaving.{called_lines, phase_lines}
use Rattle.cf_model.proofs.Owning.{FitsOwnership, Follows, HasOwn, Owns, none_passed, one_if-none}
use Rattle.cf_model.proofs.Tokens.{frame, lines_then}
use Rattle.cf_model.specs.Tokens.{frame_holds, lines_done, one_if}

abbrev pub FramesFit : Script → List Frame → Type 0
FramesFit c [] = Unit {0}
FramesFit c (f ∷ fs) = Owns (lines_done c f) f.bindings × FramesFit c fs

-- the same bindings after the same lines
pub other_kind : (c : Script) (f : Frame) (k : Kind) → frame_lines c k f.block ≡ frame_lines c f.kind f.block
    → Owns (lines_done c f) f.bindings → Owns (take f.number (frame_lines c k f.block)) f.bindings
other_kind c f k e h = rw e h

pub called_fit : (c : Script) (facts : Facts) (t : ℕ) (role : Role) (f : Frame) → Owns (lines_done c f) f.bindings
    → Owns (lines_done c (call_done facts t role f)) (call_done facts t role f).bindings
called_fit c facts t role f h = other_kind c f (kind_called role f.kind) (called_lines c role f.kind f.block) h

pub phase_fit : (c : Script) (facts : Facts) (t : ℕ) (p : Phase) (list : List ℕ) (f : Frame)
    → Owns (lines_done c f) f.bindings
    → Owns (lines_done c (phase_done facts t p list f)) (phase_done facts t p list f).bindings
phase_fit c facts t p list f h = other_kind c f (kind_after facts t p f.kind) (phase_lines c facts t p f.kind f.block) h

pub none_owns : Owns [] []
none_owns = record { unbound = λ v e. (refl, refl); most = λ v. omega arith }

pub handler_fit : (c : Script) (k : Callee) (called : Callout)
    → Owns (lines_done c (handler_frame k called)) (handler_frame k called).bindings
handler_fit c k called = record {
  unbound = λ v none.
      let none_here : one_of v 0 ≡ 0 = omega (arith, none) in
      let other : eqb 0 v ≡ false = grind (arith, nat_tests) in
      (omega (arith, none_here), ap (λ (b : Bool). cond b called.info None) other);
  most = λ v. omega arith;
}

pub run_frames_fit : (c : Script) (time : ℕ) (x : BlockLine) (b : Bool) (fs : List Frame) → FramesFit c fs
    → FramesFit c (run_frames time x b ++ fs)
run_frames_fit c time (says (forms.Run m limit once)) true fs h = (none_owns, h)
run_frames_fit c time x b fs h = h

stop_fit_by : (c : Script) (k : Kind) (b n : ℕ) (bs : List Binding) (cs : List Callee) (fs : List Frame)
    → FramesFit c (frame k b n bs cs ∷ fs) → FramesFit c (stop_frames fs)
    → FramesFit c (stop_frames (frame k b n bs cs ∷ fs))
stop_fit_by c of_block b n bs cs fs h rest = (h.0, rest)
stop_fit_by c (of_handler k) b n bs cs fs h rest = (h.0, rest)
stop_fit_by c (of_run r) b n bs cs fs h rest = (h.0, h.1)

pub stop_fit : (c : Script) (fs : List Frame) → FramesFit c fs → FramesFit c (stop_frames fs)
stop_fit c [] h = h
stop_fit c (f ∷ fs) h = stop_fit_by c f.kind f.block f.number f.bindings f.collected fs h (stop_fit c fs h.1)

-- ---- what a line without a fault tells

some_bound : (n : ℕ) → ◌≡◌ {A = Option Reason} (cond (eqb n 0) (Some Undefined) None) None → 0 < n
some_bound zero e = absurd cc
some_bound (suc n) e = omega arith

test_holds : (b : Bool) (r : Reason) → ◌≡◌ {A = Option Reason} (cond b None (Some r)) None → b ≡ true
test_holds true r e = refl
test_holds false r e = absurd cc

none_bound : (n : ℕ) → ◌≡◌ {A = Option Reason} (cond (eqb n 0) None (Some Redefined)) None → n ≡ 0
none_bound n e = eqb-true n 0 (test_holds (eqb n 0) Redefined e)

own_of_use : (s : Script) (earlier : List BlockLine) (v : ℕ) → mention_fault s earlier (mentions.Uses v) ≡ None
    → HasOwn earlier v
own_of_use s earlier v e =
    let h = none_first (unbound_fault earlier v) (unowned_fault earlier v) e in
    record {
      is_bound = some_bound (bound v earlier) h.0;
      more = ltb-true (released v earlier) (given v earlier) (test_holds (ltb (released v earlier) (given v earlier)) Unowned h.1);
    }

-- each of some variables has its own
abbrev pub HaveOwn : List BlockLine → List ℕ → Type 0
HaveOwn earlier [] = Unit {0}
HaveOwn earlier (v ∷ vs) = HasOwn earlier v × HaveOwn earlier vs

uses_own : (s : Script) (earlier : List BlockLine) (ms : List (Option Mention)) → mentions_fault s earlier ms ≡ None
    → HaveOwn earlier (present (map used ms))
uses_own s earlier [] e = tt
uses_own s earlier (None ∷ ms) e = uses_own s earlier ms e
uses_own s earlier (Some (mentions.Uses v) ∷ ms) e =
    let h = none_first (mention_fault s earlier (mentions.Uses v)) (mentions_fault s earlier ms) e in
    (own_of_use s earlier v h.0, uses_own s earlier ms h.1)
uses_own s earlier (Some (mentions.Binds v) ∷ ms) e = uses_own s earlier ms (none_first (mention_fault s earlier (mentions.Binds v)) (mentions_fault s earlier ms) e).1
uses_own s earlier (Some (mentions.Class c) ∷ ms) e = uses_own s earlier ms (none_first (mention_fault s earlier (mentions.Class c)) (mentions_fault s earlier ms) e).1
uses_own s earlier (Some (mentions.Handler h) ∷ ms) e = uses_own s earlier ms (none_first (mention_fault s earlier (mentions.Handler h)) (mentions_fault s earlier ms) e).1
uses_own s earlier (Some (mentions.Thread t) ∷ ms) e = uses_own s earlier ms (none_first (mention_fault s earlier (mentions.Thread t)) (mentions_fault s earlier ms) e).1
uses_own s earlier (Some mentions.Unknown ∷ ms) e = uses_own s earlier ms (none_first (mention_fault s earlier mentions.Unknown) (mentions_fault s earlier ms) e).1

bind_fits_ownership : (s : Script) (earlier : List BlockLine) (ms : List (Option Mention))
    → mentions_fault s earlier ms ≡ None → FitsOwnership earlier (bound_in ms)
bind_fits_ownership s earlier [] e = tt
bind_fits_ownership s earlier (None ∷ ms) e = tt
bind_fits_ownership s earlier (Some (mentions.Binds v) ∷ ms) e = none_bound (bound v earlier) (none_first (mention_fault s earlier (mentions.Binds v)) (mentions_fault s earlier ms) e).0
bind_fits_ownership s earlier (Some (mentions.Uses v) ∷ ms) e = tt
bind_fits_ownership s earlier (Some (mentions.Class c) ∷ ms) e = tt
bind_fits_ownership s earlier (Some (mentions.Handler h) ∷ ms) e = tt
bind_fits_ownership s earlier (Some (mentions.Thread t) ∷ ms) e = tt
bind_fits_ownership s earlier (Some mentions.Unknown ∷ ms) e = tt

statement_fits_ownership : (s : Script) (earlier : List BlockLine) (x : Statement)
    → line_fault s earlier (says x) ≡ None → FitsOwnership earlier (ownership_of x)
statement_fits_ownership s earlier (forms.Retain v) e = own_of_use s earlier v (none_first (mention_fault s earlier (mentions.Uses v)) None e).0
statement_fits_ownership s earlier (forms.Release v) e = own_of_use s earlier v (none_first (mention_fault s earlier (mentions.Uses v)) None e).0
statement_fits_ownership s earlier x e = bind_fits_ownership s earlier (mentions_of x) e

line_fits_ownership : (s : Script) (earlier : List BlockLine) (x : BlockLine) → line_fault s earlier x ≡ None
    → FitsOwnership earlier (line_ownership x)
line_fits_ownership s earlier (begins v) e = bind_fits_ownership s earlier (line_mentions (begins v)) e
line_fits_ownership s earlier (claims k v) e = bind_fits_ownership s earlier (line_mentions (claims k v)) e
line_fits_ownership s earlier (packs u k None) e = tt
line_fits_ownership s earlier (packs u k (Some v)) e = own_of_use s earlier v (none_first (mention_fault s earlier (mentions.Uses v)) None e).0
line_fits_ownership s earlier (says x) e = statement_fits_ownership s earlier x e

-- ---- lines at their places

take_next : (xs : List BlockLine) (n : ℕ) (x : BlockLine) → slice_get xs n ≡ Some x
    → take (n + 1) xs ≡ take n xs ++ x ∷ []
take_next [] n x e = absurd cc
take_next (y ∷ xs) zero x e = ap (λ (z : BlockLine). z ∷ []) cc
take_next (y ∷ xs) (suc n) x e =
    let more : suc n + 1 ≡ suc (n + 1) = omega arith in
    rw more (ap (λ (zs : List BlockLine). y ∷ zs) (take_next xs n x e))

take_all : (xs : List BlockLine) (n : ℕ) → slice_get xs n ≡ None → take n xs ≡ xs
take_all [] zero e = refl
take_all [] (suc n) e = refl
take_all (x ∷ xs) zero e = absurd cc
take_all (x ∷ xs) (suc n) e = ap (λ (zs : List BlockLine). x ∷ zs) (take_all xs n e)

line_is : (x y : BlockLine) → ◌≡◌ {A = Option BlockLine} (Some x) (Some y) → x ≡ y
line_is x y e = cc

-- each line of lines without a fault has none after those before it
pub fit_at : (s : Script) (earlier xs : List BlockLine) (n : ℕ) (x : BlockLine) → lines_fault s earlier xs ≡ None
    → slice_get xs n ≡ Some x → line_fault s (earlier ++ take n xs) x ≡ None
fit_at s earlier [] n x h e = absurd cc
fit_at s earlier (y ∷ xs) zero x h e =
    let p = none_first (line_fault s earlier y) (lines_fault s (earlier ++ y ∷ []) xs) h in
    rw (append-nil earlier, ← line_is y x e) p.0
fit_at s earlier (y ∷ xs) (suc n) x h e =
    let p = none_first (line_fault s earlier y) (lines_fault s (earlier ++ y ∷ []) xs) h in
    rw (← append_assoc earlier (y ∷ []) (take n xs)) (fit_at s (earlier ++ y ∷ []) xs n x p.1 e)

-- the next line of a frame of an owned script is fit after those before it
pub record FitLine (earlier : List BlockLine) (x : BlockLine) : Type 0 where
  pub ownership : FitsOwnership earlier (line_ownership x)
  pub uses : HaveOwn earlier (line_uses x)

pub block_fits : (c : Script) (k : Kind) (b : ℕ) → FitsByBlock c → lines_fault c [] (frame_lines c k b) ≡ None
block_fits c of_block b own = own.threads b
block_fits c (of_handler k) b own = own.handlers b
block_fits c (of_run r) b own = refl

pub fit_line : (c : Script) (f : Frame) (x : BlockLine) → FitsByBlock c
    → slice_get (frame_lines c f.kind f.block) f.number ≡ Some x → FitLine (lines_done c f) x
fit_line c f x own e =
    let fit = fit_at c [] (frame_lines c f.kind f.block) f.number x (block_fits c f.kind f.block own) e in
    record {
      ownership = line_fits_ownership c (lines_done c f) x fit;
      uses = uses_own c (lines_done c f) (line_mentions x) fit;
    }

-- whatever the next line of a frame answers, the frame moves on over it and over lines that may be passed over
abbrev pub MovesOn : Script → Frame → BlockLine → Type 0
MovesOn c f x = (answer : Answer) → Follows (lines_done c f) x (lines_then c f x answer)

pub moves_on : (c : Script) (f : Frame) (x : BlockLine) → FitsByBlock c
    → slice_get (frame_lines c f.kind f.block) f.number ≡ Some x → MovesOn c f x
moves_on c f x own e answer = none_passed (lines_done c f) x (lines_then c f x answer) (take_next (frame_lines c f.kind f.block) f.number x e)

-- a handler's frame at its end owns one reference to its info, and no other
pub handler_balance : (c : Script) (f : Frame) (k : Callee) → FitsByBlock c → f.kind ≡ of_handler k
    → slice_get (handler_lines c f.block) f.number ≡ None → (v o : ℕ)
    → frame_holds c f v o ≡ one_if (look 0 f.bindings) o (one_of v 0)
handler_balance c f k own e end v o =
    let lines = handler_lines c f.block in
    let whole : lines_done c f ≡ lines = rw e (take_all lines f.number end) in
    let left : given v lines - released v lines ≡ one_of v 0 = omega (arith, own.balanced f.block v) in
    rw (whole, left) (by v)
  where
    by : (v : ℕ) → one_if (look v f.bindings) o (one_of v 0) ≡ one_if (look 0 f.bindings) o (one_of v 0)
    by zero = refl
    by (suc v) =
        let other : one_of (suc v) 0 ≡ 0 = grind (arith, nat_tests) in
        rw other (one_if-none (look (suc v) f.bindings) o ∙ sym (one_if-none (look 0 f.bindings) o))
