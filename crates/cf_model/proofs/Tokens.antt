-- A stand that is stopped holds the same.
use Rattle.std.proofs.Common.{◌+◌, ◌∙◌, ◌∷◌, ◌≡◌, List, None, Option, Some, [], ap, inl, inr, length, refl, subst, suc, sym, take, zero, ℕ}
use Rattle.std.proofs.lemmas.Bool.Decides.{eqb_tells}
use Rattle.cf_ids.specs.declared.answer.Answer.{Answer}
use Rattle.cf_syntax.specs.BlockLines.{BlockLine}
use Rattle.cf_syntax.specs.declared.script.Script.{Script}
use Rattle.cf_next.specs.Advance.{lines_passed}
use Rattle.cf_next.specs.Demands.{frame_lines}
use Rattle.cf_next.specs.Stands.{Binding, Callee, Frame, Kind, Stand, of_block, of_handler, of_run, stop_frames, stop_stand}
use Rattle.cf_model.specs.State.{at_or, blank, stand_at, with_at}
use Rattle.cf_model.specs.Steps.{stopped_at}
use Rattle.cf_model.specs.Tokens.{callouts_hold, frames_hold, owed_in}

-- ---- lists with a default

pub at_own : {A : Type 0} (a : A) (n : ℕ) (y : A) (xs : List A) → at_or a n (with_at a n y xs) ≡ y
at_own a zero y [] = refl
at_own a (suc n) y [] = at_own a n y []
at_own a zero y (x ∷ xs) = refl
at_own a (suc n) y (x ∷ xs) = at_own a n y xs

pub at_other : {A : Type 0} (a : A) (m n : ℕ) (y : A) (xs : List A) → (m ≡ n → ⊥)
    → at_or a m (with_at a n y xs) ≡ at_or a m xs
at_other a zero zero y xs h = absurd (h refl)
at_other a zero (suc n) y [] h = refl
at_other a zero (suc n) y (x ∷ xs) h = refl
at_other a (suc m) zero y [] h = none_at m
  where
    none_at : (k : ℕ) → at_or a k [] ≡ a
    none_at zero = refl
    none_at (suc k) = refl
at_other a (suc m) zero y (x ∷ xs) h = refl
at_other a (suc m) (suc n) y [] h = at_other a m n y [] (λ q. h (ap suc q)) ∙ none_at m
  where
    none_at : (k : ℕ) → at_or a k [] ≡ a
    none_at zero = refl
    none_at (suc k) = refl
at_other a (suc m) (suc n) y (x ∷ xs) h = at_other a m n y xs (λ q. h (ap suc q))

-- ---- what is stopped holds the same

-- the lines that are done after the next line of a frame, by what that answers
abbrev pub lines_then : Script → Frame → BlockLine → Answer → List BlockLine
lines_then c f x answer = take (f.number + lines_passed x answer) (frame_lines c f.kind f.block)

abbrev pub frame : Kind → (block number : ℕ) → List Binding → List Callee → Frame
frame k b n bs cs = record { kind = k; block = b; number = n; bindings = bs; collected = cs }

stop_length_by : (k : Kind) (b n : ℕ) (bs : List Binding) (cs : List Callee) (fs : List Frame)
    → length (stop_frames fs) ≡ length fs → length (stop_frames (frame k b n bs cs ∷ fs)) ≡ suc (length fs)
stop_length_by of_block b n bs cs fs h = ap suc h
stop_length_by (of_handler k) b n bs cs fs h = ap suc h
stop_length_by (of_run r) b n bs cs fs h = refl

pub stop_length : (fs : List Frame) → length (stop_frames fs) ≡ length fs
stop_length [] = refl
stop_length (f ∷ fs) = stop_length_by f.kind f.block f.number f.bindings f.collected fs (stop_length fs)

stop_holds_by : (c : Script) (k : Kind) (b n : ℕ) (bs : List Binding) (cs : List Callee) (fs : List Frame) (d v o : ℕ)
    → frames_hold c (stop_frames fs) d v o ≡ frames_hold c fs d v o
    → frames_hold c (stop_frames (frame k b n bs cs ∷ fs)) d v o ≡ frames_hold c (frame k b n bs cs ∷ fs) d v o
stop_holds_by c of_block b n bs cs fs d v o h = rw (stop_length fs, h) refl
stop_holds_by c (of_handler k) b n bs cs fs d v o h = rw (stop_length fs, h) refl
stop_holds_by c (of_run r) b n bs cs fs d v o h = refl

pub stop_holds : (c : Script) (fs : List Frame) (d v o : ℕ)
    → frames_hold c (stop_frames fs) d v o ≡ frames_hold c fs d v o
stop_holds c [] d v o = refl
stop_holds c (f ∷ fs) d v o = stop_holds_by c f.kind f.block f.number f.bindings f.collected fs d v o (stop_holds c fs d v o)

stop_callouts_by : (k : Kind) (b n : ℕ) (bs : List Binding) (cs : List Callee) (fs : List Frame) (d o : ℕ)
    → callouts_hold (stop_frames fs) d o ≡ callouts_hold fs d o
    → callouts_hold (stop_frames (frame k b n bs cs ∷ fs)) d o ≡ callouts_hold (frame k b n bs cs ∷ fs) d o
stop_callouts_by of_block b n bs cs fs d o h = rw (stop_length fs, h) refl
stop_callouts_by (of_handler k) b n bs cs fs d o h = rw (stop_length fs, h) refl
stop_callouts_by (of_run r) b n bs cs fs d o h = refl

pub stop_callouts : (fs : List Frame) (d o : ℕ) → callouts_hold (stop_frames fs) d o ≡ callouts_hold fs d o
stop_callouts [] d o = refl
stop_callouts (f ∷ fs) d o = stop_callouts_by f.kind f.block f.number f.bindings f.collected fs d o (stop_callouts fs d o)

-- two stands that hold the same
pub record HoldsAs (c : Script) (a b : Stand) : Type 0 where
  pub variables : (d v o : ℕ) → frames_hold c a.frames d v o ≡ frames_hold c b.frames d v o
  pub callouts : (d o : ℕ) → callouts_hold a.frames d o ≡ callouts_hold b.frames d o
  pub owed : (o : ℕ) → owed_in o a.work ≡ owed_in o b.work

holds_as_is : (c : Script) (a b : Stand) → a ≡ b → HoldsAs c a b
holds_as_is c a b e = subst (HoldsAs c a) e (record { variables = λ d v o. refl; callouts = λ d o. refl; owed = λ o. refl })

pub stopped_as : (c : Script) (stops : Option ℕ) (u : ℕ) (ss : List Stand)
    → HoldsAs c (stand_at u (stopped_at stops ss)) (stand_at u ss)
stopped_as c None u ss = record { variables = λ d v o. refl; callouts = λ d o. refl; owed = λ o. refl }
stopped_as c (Some w) u ss = elim (eqb_tells u w) [
  | inl e ↦ subst (λ (n : ℕ). HoldsAs c (stand_at n (stopped_at (Some w) ss)) (stand_at n ss)) (sym e.1)
      (subst (λ (s : Stand). HoldsAs c s (stand_at w ss)) (sym (at_own blank w (stop_stand (stand_at w ss)) ss))
      (record { variables = stop_holds c (stand_at w ss).frames; callouts = stop_callouts (stand_at w ss).frames; owed = λ o. refl }))
  | inr e ↦ holds_as_is c (stand_at u (stopped_at (Some w) ss)) (stand_at u ss) (at_other blank u w (stop_stand (stand_at w ss)) ss e.1)
]
