-- What the references of threads and of parcels weigh, by where threads stand.
use Rattle.std.proofs.Common.{◌≡◌, ℕ, zero, suc, ◌+◌, ◌-◌, ◌≤◌, Bool, true, false, cond, List, [], ◌∷◌, length, map, replicate, Option, Some, None, refl, sym, ap, ◌∙◌, eqb, arith, inl, inr}
use Rattle.std.proofs.lemmas.Bool.{cases_lt}
use Rattle.std.proofs.lemmas.Bool.Decides.{eqb_tells}
use Rattle.cf_ids.specs.declared.limits.TheConstants.{VARIABLES}
use Rattle.cf_syntax.specs.declared.script.Script.{Script}
use Rattle.cf_syntax.specs.Owned.{given, released}
use Rattle.cf_graph.specs.Holders.{Holder, variable, callout, owed, parcel, slot}
use Rattle.cf_graph.specs.Edges.{Reference, held_by, held_if, weigh, one, counted}
use Rattle.cf_graph.specs.Operations.{without}
use Rattle.cf_graph.proofs.Counts.{weigh-append, weigh-without}
use Rattle.cf_graph.proofs.Flows.{one_own, other_weigh}
use Rattle.cf_next.specs.Stands.{look, Frame, Work, release_of, spend_of, slots_of, Stand}
use Rattle.cf_next.specs.Next.{top_frame}
use Rattle.cf_next.specs.Advance.{kind_item}
use Rattle.cf_next.specs.Held.{HasVariables, below, copies, frame_at, owed_objects, passed_lines, variable_objects}
use Rattle.cf_next.proofs.DepthLaws.{at-top, at-other, at-past}
use Rattle.cf_next.proofs.HeldLaws.{below-none, below-suc}
use Rattle.cf_model.specs.State.{first_held}
use Rattle.cf_model.specs.Parcels.{from_holder, HasOneAtMost}
use Rattle.cf_model.specs.Tokens.{one_if, owed_in, frames_hold, frame_holds, callouts_hold}
use Rattle.cf_model.proofs.FirstHeld.{first_there, nothing_held, one_of_holder}
use Rattle.cf_model.proofs.Places.{kinds_apart}
use Rattle.cf_world.specs.Referring.{depth_references, frame_references, frames_references, thread_references, variable_references}

-- ---- lists, one after another

weigh-below-suc : (w : Reference → ℕ) (f : ℕ → List Reference) (n : ℕ)
    → weigh w (below f (suc n)) ≡ weigh w (below f n) + weigh w (f n)
weigh-below-suc w f n = ap (weigh w) (below-suc f n) ∙ weigh-append w (below f n) (f n)

pub weigh-below-none : (w : Reference → ℕ) (f : ℕ → List Reference) (n : ℕ) → ((i : ℕ) → weigh w (f i) ≡ 0)
    → weigh w (below f n) ≡ 0
weigh-below-none w f zero h = ap (weigh w) (below-none f)
weigh-below-none w f (suc n) h = omega (arith, weigh-below-suc w f n, h n, weigh-below-none w f n h)

weigh-below-other : (w : Reference → ℕ) (f : ℕ → List Reference) (n k : ℕ) → n ≤ k
    → ((i : ℕ) → (i ≡ k → ⊥) → weigh w (f i) ≡ 0) → weigh w (below f n) ≡ 0
weigh-below-other w f zero k le h = ap (weigh w) (below-none f)
weigh-below-other w f (suc n) k le h =
    omega (arith, weigh-below-suc w f n, h n (λ e. omega (arith, e, le)), weigh-below-other w f n k (omega (arith, le)) h)

-- where one list alone weighs something, and no list after the last does
pub weigh-below : (w : Reference → ℕ) (f : ℕ → List Reference) (n k : ℕ) → ((i : ℕ) → (i ≡ k → ⊥) → weigh w (f i) ≡ 0)
    → (n ≤ k → weigh w (f k) ≡ 0) → weigh w (below f n) ≡ weigh w (f k)
weigh-below w f zero k others outside = ap (weigh w) (below-none f) ∙ sym (outside (omega arith))
weigh-below w f (suc n) k others outside = elim (eqb_tells n k) [
  | inl e ↦
      let rest : weigh w (below f n) ≡ 0 = weigh-below-other w f n k (omega (arith, e.1)) others in
      let here : weigh w (f n) ≡ weigh w (f k) = ap (λ (i : ℕ). weigh w (f i)) e.1 in
      omega (arith, weigh-below-suc w f n, rest, here)
  | inr e ↦
      let apart : n ≡ k → ⊥ = e.1 in
      omega (arith, weigh-below-suc w f n, others n apart, weigh-below w f n k others (λ le. outside (beyond n k le apart)))
]
  where
    beyond : (n k : ℕ) → n ≤ k → (n ≡ k → ⊥) → suc n ≤ k
    beyond n k le apart = omega arith

-- ---- what each list weighs

copies-weigh : (k : Holder) (o : ℕ) (found : Option ℕ) (n : ℕ)
    → weigh (one (held_by k o)) (map (held_by k) (copies found n)) ≡ one_if found o n
copies-weigh k o None n = refl
copies-weigh k o (Some p) n = by (eqb p o) refl n
  where
    by : (b : Bool) → eqb p o ≡ b → (n : ℕ) → weigh (one (held_by k o)) (map (held_by k) (replicate n p)) ≡ cond b n 0
    by true e zero = refl
    by true e (suc n) = omega (arith, one_own k o p, ap counted e, by true e n)
    by false e zero = refl
    by false e (suc n) = omega (arith, one_own k o p, ap counted e, by false e n)

owed-weigh : (t o : ℕ) (work : List Work)
    → weigh (one (held_by (owed t) o)) (map (held_by (owed t)) (owed_objects work)) ≡ owed_in o work
owed-weigh t o [] = refl
owed-weigh t o (release_of p ∷ work) = omega (arith, one_own (owed t) o p, owed-weigh t o work)
owed-weigh t o (spend_of i ∷ work) = owed-weigh t o work
owed-weigh t o (slots_of b k ∷ work) = owed-weigh t o work

-- what a place of a parcel has is what its one reference leads to
pub parcel-weigh : (h : Holder) (es : List Reference) (o : ℕ) (found : Option ℕ) → first_held h es ≡ found
    → HasOneAtMost h es → weigh (one (held_by h o)) (held_if h found) ≡ weigh (one (held_by h o)) es
parcel-weigh h es o None e single = sym (single.none e o)
parcel-weigh h es o (Some p) e single =
    let left = without (held_by h p) es in
    let none : weigh (from_holder h) left ≡ 0 = nothing_held h left (single.gone p e) in
    let here : weigh (one (held_by h o)) (held_if h (Some p)) ≡ one (held_by h o) (held_by h p) + 0 = refl in
    omega (arith, none, here, one_of_holder h o left, weigh-without (one (held_by h o)) (held_by h p) es (first_there h p es e))

pub variable_parts : (t d v u e w : ℕ) → variable t d v ≡ variable u e w → (t ≡ u) × (d ≡ e) × (v ≡ w)
variable_parts t d v u e w q = (cc, cc, cc)

pub owed_part : (t u : ℕ) → owed t ≡ owed u → t ≡ u
owed_part t u q = cc

pub slot_part : (b c : ℕ) → slot b ≡ slot c → b ≡ c
slot_part b c q = cc

pub parcel_part : (t k u m : ℕ) → parcel t k ≡ parcel u m → (t ≡ u) × (k ≡ m)
parcel_part t k u m q = (cc, cc)

pub callout_parts : (t d u e : ℕ) → callout t d ≡ callout u e → (t ≡ u) × (d ≡ e)
callout_parts t d u e q = (cc, cc)

-- ---- what is told of frames, by their depth

frames-hold-at : (s : Script) (fs : List Frame) (d v o : ℕ)
    → frames_hold s fs d v o ≡ frame_holds s (frame_at fs d) v o
frames-hold-at s [] d v o = refl
frames-hold-at s (f ∷ fs) d v o = elim (eqb_tells (length fs) d) [
  | inl p ↦
      ap (λ (b : Bool). cond b (frame_holds s f v o) (frames_hold s fs d v o)) p.0
      ∙ sym (ap (λ (x : Frame). frame_holds s x v o) (at-top (top_frame []) f fs d p.1))
  | inr p ↦
      ap (λ (b : Bool). cond b (frame_holds s f v o) (frames_hold s fs d v o)) p.0
      ∙ frames-hold-at s fs d v o
      ∙ sym (ap (λ (x : Frame). frame_holds s x v o) (at-other (top_frame []) f fs d p.1))
]

callouts-hold-at : (fs : List Frame) (d o : ℕ) → callouts_hold fs d o ≡ one_if (kind_item (frame_at fs d).kind) o 1
callouts-hold-at [] d o = refl
callouts-hold-at (f ∷ fs) d o = elim (eqb_tells (length fs) d) [
  | inl p ↦
      ap (λ (b : Bool). cond b (one_if (kind_item f.kind) o 1) (callouts_hold fs d o)) p.0
      ∙ sym (ap (λ (x : Frame). one_if (kind_item x.kind) o 1) (at-top (top_frame []) f fs d p.1))
  | inr p ↦
      ap (λ (b : Bool). cond b (one_if (kind_item f.kind) o 1) (callouts_hold fs d o)) p.0
      ∙ callouts-hold-at fs d o
      ∙ sym (ap (λ (x : Frame). one_if (kind_item x.kind) o 1) (at-other (top_frame []) f fs d p.1))
]

variable-none : (fs : List Frame) (d v : ℕ) → HasVariables fs → VARIABLES ≤ v → look v (frame_at fs d).bindings ≡ None
variable-none fs d v few le = elim (cases_lt d (length fs)) [
  | inl lt ↦ few d v lt le
  | inr past ↦ ap (λ (f : Frame). look v f.bindings) (at-past (top_frame []) fs d past)
]

-- ---- what the references of a frame weigh

frame-weigh : (s : Script) (w : Reference → ℕ) (t d : ℕ) (f : Frame)
    → weigh w (frame_references s t d f) ≡ weigh w (below (variable_references s t d f) VARIABLES) + weigh w (map (held_by (callout t d)) (copies (kind_item f.kind) 1))
frame-weigh s w t d f = weigh-append w (below (variable_references s t d f) VARIABLES) (map (held_by (callout t d)) (copies (kind_item f.kind) 1))

frame-none : (s : Script) (r : Reference) (t d : ℕ) (f : Frame) → ((v : ℕ) → r.holder ≡ variable t d v → ⊥)
    → (r.holder ≡ callout t d → ⊥) → weigh (one r) (frame_references s t d f) ≡ 0
frame-none s r t d f a b =
    omega (
      arith,
      frame-weigh s (one r) t d f,
      weigh-below-none (one r) (variable_references s t d f) VARIABLES (λ v. other_weigh r (variable t d v) (variable_objects (passed_lines s f) f v) (a v)),
      other_weigh r (callout t d) (copies (kind_item f.kind) 1) b,
    )

-- a frame that is not there
frame-past : (s : Script) (r : Reference) (t d : ℕ) (fs : List Frame) → length fs ≤ d
    → weigh (one r) (depth_references s t fs d) ≡ 0
frame-past s r t d fs le =
    let gone : Frame = top_frame [] in
    let none : weigh (one r) (below (variable_references s t d gone) VARIABLES) ≡ 0 =
    weigh-below-none (one r) (variable_references s t d gone) VARIABLES (λ v. refl) in
    let uncalled : weigh (one r) (map (held_by (callout t d)) (copies (kind_item gone.kind) 1)) ≡ 0 = refl in
    ap (λ (f : Frame). weigh (one r) (frame_references s t d f)) (at-past gone fs d le)
    ∙ omega (arith, frame-weigh s (one r) t d gone, none, uncalled)

none-past : (found : Option ℕ) (k : Holder) (w : Reference → ℕ) (n : ℕ) → found ≡ None
    → weigh w (map (held_by k) (copies found n)) ≡ 0
none-past None k w n e = refl
none-past (Some o) k w n e = absurd cc

-- a variable of a frame
frame-variable : (s : Script) (t d v o : ℕ) (f : Frame) → (VARIABLES ≤ v → look v f.bindings ≡ None)
    → weigh (one (held_by (variable t d v) o)) (frame_references s t d f) ≡ frame_holds s f v o
frame-variable s t d v o f few =
    let r = held_by (variable t d v) o in
    let n = given v (passed_lines s f) - released v (passed_lines s f) in
    omega (
      arith,
      frame-weigh s (one r) t d f,
      weigh-below (one r) (variable_references s t d f) VARIABLES v
          (λ i apart. other_weigh r (variable t d i) (variable_objects (passed_lines s f) f i) (λ q. apart (sym (variable_parts t d v t d i q).2)))
          (λ le. none-past (look v f.bindings) (variable t d v) (one r) n (few le)),
      copies-weigh (variable t d v) o (look v f.bindings) n,
      other_weigh r (callout t d) (copies (kind_item f.kind) 1) (kinds_apart (variable t d v) (callout t d) refl),
    )

-- its callout
frame-callout : (s : Script) (t d o : ℕ) (f : Frame)
    → weigh (one (held_by (callout t d) o)) (frame_references s t d f) ≡ one_if (kind_item f.kind) o 1
frame-callout s t d o f =
    let r = held_by (callout t d) o in
    omega (
      arith,
      frame-weigh s (one r) t d f,
      weigh-below-none (one r) (variable_references s t d f) VARIABLES (λ v. other_weigh r (variable t d v) (variable_objects (passed_lines s f) f v) (kinds_apart (callout t d) (variable t d v) refl)),
      copies-weigh (callout t d) o (kind_item f.kind) 1,
    )

-- ---- what the references of a thread weigh

thread-weigh : (s : Script) (w : Reference → ℕ) (t : ℕ) (stand : Stand)
    → weigh w (thread_references s t stand) ≡ weigh w (frames_references s t stand.frames) + weigh w (map (held_by (owed t)) (owed_objects stand.work))
thread-weigh s w t stand = weigh-append w (frames_references s t stand.frames) (map (held_by (owed t)) (owed_objects stand.work))

frames-none : (s : Script) (r : Reference) (t : ℕ) (fs : List Frame) → ((d v : ℕ) → r.holder ≡ variable t d v → ⊥)
    → ((d : ℕ) → r.holder ≡ callout t d → ⊥) → weigh (one r) (frames_references s t fs) ≡ 0
frames-none s r t fs a b =
    weigh-below-none (one r) (depth_references s t fs) (length fs) (λ d. frame-none s r t d (frame_at fs d) (a d) (b d))

pub thread-none : (s : Script) (r : Reference) (t : ℕ) (stand : Stand) → ((d v : ℕ) → r.holder ≡ variable t d v → ⊥)
    → ((d : ℕ) → r.holder ≡ callout t d → ⊥) → (r.holder ≡ owed t → ⊥) → weigh (one r) (thread_references s t stand) ≡ 0
thread-none s r t stand a b c =
    omega (
      arith,
      thread-weigh s (one r) t stand,
      frames-none s r t stand.frames a b,
      other_weigh r (owed t) (owed_objects stand.work) c,
    )

-- a variable of a thread's frame at a depth
pub thread-variable : (s : Script) (t d v o : ℕ) (stand : Stand) → HasVariables stand.frames
    → weigh (one (held_by (variable t d v) o)) (thread_references s t stand) ≡ frames_hold s stand.frames d v o
thread-variable s t d v o stand few =
    let r = held_by (variable t d v) o in
    let fs = stand.frames in
    omega (
      arith,
      thread-weigh s (one r) t stand,
      weigh-below (one r) (depth_references s t fs) (length fs) d
          (λ i apart. frame-none s r t i (frame_at fs i) (λ w q. apart (sym (variable_parts t d v t i w q).1)) (kinds_apart (variable t d v) (callout t i) refl))
          (λ le. frame-past s r t d fs le),
      frame-variable s t d v o (frame_at fs d) (variable-none fs d v few),
      frames-hold-at s fs d v o,
      other_weigh r (owed t) (owed_objects stand.work) (kinds_apart (variable t d v) (owed t) refl),
    )

-- the callout of a thread's frame at a depth
pub thread-callout : (s : Script) (t d o : ℕ) (stand : Stand)
    → weigh (one (held_by (callout t d) o)) (thread_references s t stand) ≡ callouts_hold stand.frames d o
thread-callout s t d o stand =
    let r = held_by (callout t d) o in
    let fs = stand.frames in
    omega (
      arith,
      thread-weigh s (one r) t stand,
      weigh-below (one r) (depth_references s t fs) (length fs) d
          (λ i apart. frame-none s r t i (frame_at fs i) (λ w. kinds_apart (callout t d) (variable t i w) refl) (λ q. apart (sym (callout_parts t d t i q).1)))
          (λ le. frame-past s r t d fs le),
      frame-callout s t d o (frame_at fs d),
      callouts-hold-at fs d o,
      other_weigh r (owed t) (owed_objects stand.work) (kinds_apart (callout t d) (owed t) refl),
    )

-- what its work owes
pub thread-owed : (s : Script) (t o : ℕ) (stand : Stand)
    → weigh (one (held_by (owed t) o)) (thread_references s t stand) ≡ owed_in o stand.work
thread-owed s t o stand =
    let r = held_by (owed t) o in
    omega (
      arith,
      thread-weigh s (one r) t stand,
      frames-none s r t stand.frames (λ d v. kinds_apart (owed t) (variable t d v) refl) (λ d. kinds_apart (owed t) (callout t d) refl),
      owed-weigh t o stand.work,
    )
