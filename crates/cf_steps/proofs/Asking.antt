-- A thread that enters or ends a phase, or calls an observer, stands in a run.
use Rattle.std.proofs.Common.{◌≡◌, ℕ, Bool, true, false, cond, List, [], ◌∷◌, length, slice_get, Option, Some, None, refl, sym, ap, inl, inr, ◌∙◌, arith}
use Rattle.std.specs.Prelude.{◌⊎◌, ◌+◌}
use Rattle.std.specs.Option.{option_and_then}
use Rattle.rl_turn.specs.declared.phases.Phase.{Phase}
use Rattle.cf_syntax.specs.declared.script.Script.{Script}
use Rattle.cf_syntax.specs.BlockLines.{BlockLine, thread_lines, handler_lines}
use Rattle.cf_next.specs.Facts.{Callout, Facts}
use Rattle.cf_next.specs.Stands.{Role, as_observer, as_source, as_timer, as_receiver, Callee, Turn, Kind, of_block, of_handler, of_run, Frame, Work, release_of, spend_of, slots_of, Stand}
use Rattle.cf_next.specs.Standing.{innermost_run, run_or}
use Rattle.cf_next.specs.Demands.{Demand, does, ends, returns, owes, spends, drops, calls, enters, closes, call_demand, call_if, callout_of, demand, frame_demand, kind_demand, line_or, or_else, slot_if, work_demand}
use Rattle.cf_next.specs.Advance.{top_kind, top_info}
use Rattle.cf_next.specs.Next.{top_frame}
use Rattle.cf_next.specs.Stands.{look}
use Rattle.cf_model.specs.Steps.{activity, activity_of, bindings_of, depth_of}
use Rattle.cf_steps.specs.Running.{IsInRun, asks_run, is_observer}

of-top : (f : Frame) (fs : List Frame) (r : Turn) → f.kind ≡ of_run r → IsInRun (f ∷ fs)
of-top f fs r e = record { run = r; kind = e; innermost = ap (λ k. run_or k (innermost_run fs)) e }

told : (a d : Demand) → Some a ≡ Some d → asks_run a ≡ false → asks_run d ≡ false
told a d h is = let e : d ≡ a = cc in ap asks_run e ∙ is

slot-asks : (o : Option ℕ) (b k : ℕ) (other : Option Demand) (d : Demand) → slot_if b k o other ≡ Some d
    → (other ≡ Some d → asks_run d ≡ false) → asks_run d ≡ false
slot-asks None b k other d h rest = rest h
slot-asks (Some o) b k other d h rest = told (drops b k o) d h refl

work-asks : (facts : Facts) (work : List Work) (d : Demand) → work_demand facts work ≡ Some d → asks_run d ≡ false
work-asks facts [] d h = absurd (cc)
work-asks facts (release_of o ∷ work) d h = told (owes o) d h refl
work-asks facts (spend_of i ∷ work) d h = told (spends i) d h refl
work-asks facts (slots_of b k ∷ work) d h =
    slot-asks (facts.slot b k) b k (work_demand facts work) d h (work-asks facts work d)

clash : (b : Bool) → b ≡ true → b ≡ false → ⊥
clash b h k = cc

-- a callout of a registration is no observer's
received : (k : Callee) → k.role ≡ as_receiver → (c : Option Callout) (other : Option Demand) (d : Demand)
    → call_if k c other ≡ Some d → asks_run d ≡ true → other ≡ Some d
received k is None other d h a = h
received k is (Some c) other d h a = absurd (clash (asks_run d) a (told (calls k c) d h (ap is_observer is)))

blocked : (facts : Facts) (t n : ℕ) (role : Role) (k : Callee) → k.role ≡ role → (other : Option Demand) (d : Demand)
    → call_if k (callout_of facts t of_block role n) other ≡ Some d → asks_run d ≡ true → other ≡ Some d
blocked facts t n as_observer k is other d h a = h
blocked facts t n as_source k is other d h a = h
blocked facts t n as_timer k is other d h a = h
blocked facts t n as_receiver k is other d h a = received k is (facts.receiver n) other d h a

handled : (facts : Facts) (t n : ℕ) (role : Role) (j k : Callee) → k.role ≡ role → (other : Option Demand) (d : Demand)
    → call_if k (callout_of facts t (of_handler j) role n) other ≡ Some d → asks_run d ≡ true → other ≡ Some d
handled facts t n as_observer j k is other d h a = h
handled facts t n as_source j k is other d h a = h
handled facts t n as_timer j k is other d h a = h
handled facts t n as_receiver j k is other d h a = received k is (facts.receiver n) other d h a

call-in : (facts : Facts) (t : ℕ) (kind : Kind) (ks : List Callee) (d : Demand) → call_demand facts t kind ks ≡ Some d
    → asks_run d ≡ true → (r : Turn) × (kind ≡ of_run r)
call-in facts t (of_run r) ks d h a = (r, refl)
call-in facts t of_block [] d h a = absurd (cc)
call-in facts t of_block (k ∷ ks) d h a =
    call-in facts t of_block ks d (blocked facts t k.number k.role k refl (call_demand facts t of_block ks) d h a) a
call-in facts t (of_handler j) [] d h a = absurd (cc)
call-in facts t (of_handler j) (k ∷ ks) d h a =
    call-in facts t (of_handler j) ks d (handled facts t k.number k.role j k refl (call_demand facts t (of_handler j) ks) d h a) a

lined : (x : Option BlockLine) (e : Demand) → asks_run e ≡ false → asks_run (line_or x e) ≡ false
lined None e h = h
lined (Some x) e h = refl

kind-in : (s : Script) (facts : Facts) (t : ℕ) (kind : Kind) (b n : ℕ) (d : Demand)
    → Some (kind_demand s facts t kind b n) ≡ Some d → asks_run d ≡ true → (r : Turn) × (kind ≡ of_run r)
kind-in s facts t (of_run r) b n d h a = (r, refl)
kind-in s facts t of_block b n d h a =
    absurd (clash (asks_run d) a (told (line_or (slice_get (thread_lines s b) n) ends) d h (lined (slice_get (thread_lines s b) n) ends refl)))
kind-in s facts t (of_handler k) b n d h a =
    absurd (clash (asks_run d) a (told (line_or (slice_get (handler_lines s b) n) returns) d h (lined (slice_get (handler_lines s b) n) returns refl)))

either : (a b : Option Demand) (d : Demand) → or_else a b ≡ Some d → (a ≡ Some d) ⊎ (b ≡ Some d)
either None b d h = inr h
either (Some a) b d h = inl h

frame-in : (s : Script) (facts : Facts) (t : ℕ) (fs : List Frame) (d : Demand) → frame_demand s facts t fs ≡ Some d
    → asks_run d ≡ true → IsInRun fs
frame-in s facts t [] d h a = absurd (cc)
frame-in s facts t (f ∷ fs) d h a =
    elim (either (call_demand facts t f.kind f.collected) (Some (kind_demand s facts t f.kind f.block f.number)) d h) [
      | inl p ↦ (let r = call-in facts t f.kind f.collected d p a in of-top f fs r.0 r.1)
      | inr p ↦ (let r = kind-in s facts t f.kind f.block f.number d p a in of-top f fs r.0 r.1)
    ]

going : (done : Bool) (x : Option Demand) (d : Demand) → cond done None x ≡ Some d → x ≡ Some d
going true x d h = absurd (cc)
going false x d h = h

-- what only a run has is demanded in one
pub in-run : (s : Script) (facts : Facts) (t : ℕ) (stand : Stand) (d : Demand) → demand s facts t stand ≡ Some d
    → asks_run d ≡ true → IsInRun stand.frames
in-run s facts t stand d h a =
    elim (either (work_demand facts stand.work) (frame_demand s facts t stand.frames) d (going stand.is_done (or_else (work_demand facts stand.work) (frame_demand s facts t stand.frames)) d h)) [
      | inl p ↦ absurd (clash (asks_run d) a (work-asks facts stand.work d p))
      | inr p ↦ frame-in s facts t stand.frames d p a
    ]

-- ---- the innermost frame

pub depth-is : (fs : List Frame) (n : ℕ) → length fs ≡ n + 1 → depth_of fs ≡ n
depth-is [] n h = absurd (omega arith)
depth-is (f ∷ fs) n h = omega arith

pub bindings-are : (fs : List Frame) → bindings_of fs ≡ (top_frame fs).bindings
bindings-are [] = refl
bindings-are (f ∷ fs) = refl

pub info-is : (fs : List Frame) → top_info fs ≡ look 0 (top_frame fs).bindings
info-is [] = refl
info-is (f ∷ fs) = refl

pub kind-is : (fs : List Frame) → top_kind fs ≡ (top_frame fs).kind
kind-is [] = refl
kind-is (f ∷ fs) = refl

-- the activity of a run's last note
pub noted : (fs : List Frame) → IsInRun fs → (last : Option Phase)
    → last ≡ option_and_then (λ (r : Turn). r.last) (innermost_run fs) → activity (top_kind fs) ≡ activity_of last
noted fs h last is =
    ap activity h.kind ∙ sym (ap activity_of (is ∙ ap (option_and_then (λ (r : Turn). r.last)) h.innermost))
