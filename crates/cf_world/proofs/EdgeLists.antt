-- Edges that are added one after another are those of lists of references, one list more.
use Rattle.std.proofs.Common.{◌≡◌, ℕ, zero, suc, ◌+◌, ◌-◌, ◌<◌, ◌≤◌, List, [], ◌∷◌, ◌++◌, length, take, map, get_or, Option, Some, None, inl, inr, refl, sym, ap, ◌∙◌, subst, arith, append_assoc}
use Rattle.std.specs.Prelude.{slice_get}
use Rattle.std.proofs.lemmas.Bool.{cases_lt}
use Rattle.std.proofs.lemmas.List.{map-append}
use Rattle.cf_ids.specs.declared.limits.TheConstants.{VARIABLES}
use Rattle.cf_syntax.specs.declared.script.Script.{Script}
use Rattle.cf_graph.specs.declared.edge.Edge.{Edge}
use Rattle.cf_graph.specs.declared.edge.Owner.{Owner}
use Rattle.cf_graph.specs.Holders.{Holder, variable, callout, owed, slot, owner_of}
use Rattle.cf_graph.specs.Edges.{Reference, edge_of, edges_of, held_by}
use Rattle.cf_next.specs.Advance.{kind_item}
use Rattle.cf_next.specs.Stands.{Frame, Stand}
use Rattle.cf_next.specs.Standing.{Standing}
use Rattle.cf_next.specs.Held.{HasVariables, below, copies, depth_objects, frame_at, frame_objects, frames_objects, held_objects, owed_objects, passed_lines, variable_objects}
use Rattle.cf_next.proofs.HeldLaws.{below-none, below-suc, below-more}
use Rattle.cf_model.specs.State.{stand_at}
use Rattle.cf_world.specs.Referring.{AllHaveVariables, depth_references, frame_references, frames_references, stands_of, thread_edge, thread_references, stand_references, variable_references}

-- what is after one list more
pub edges-more : (f : ℕ → List Reference) (n : ℕ) (start before after more : List Edge)
    → before ≡ start ++ edges_of (below f n) → after ≡ before ++ more → edges_of (f n) ≡ more
    → after ≡ start ++ edges_of (below f (n + 1))
edges-more f n start before after more so_far is here =
    is ∙ ap (λ (es : List Edge). es ++ more) so_far ∙ append_assoc start (edges_of (below f n)) more
    ∙ ap (λ (es : List Edge). start ++ (edges_of (below f n) ++ es)) (sym here)
    ∙ ap (λ (es : List Edge). start ++ es) (sym (map-append edge_of (below f n) (f n)))
    ∙ ap (λ (rs : List Reference). start ++ edges_of rs) (sym (below-more f n))

-- ---- threads

abbrev edge_with : Owner → ℕ → Edge
edge_with w o = record { owner = w; object = o }

-- the edges of what a holder of a thread holds
holder-edges : (t : ℕ) (h : Holder) (os : List ℕ) → owner_of h ≡ owner_of (owed t)
    → edges_of (map (held_by h) os) ≡ map (thread_edge t) os
holder-edges t h [] is = refl
holder-edges t h (o ∷ os) is =
    ap (λ (w : Owner). edge_with w o ∷ edges_of (map (held_by h) os)) is
    ∙ ap (λ (es : List Edge). thread_edge t o ∷ es) (holder-edges t h os is)

-- the same of lists one after another
below-edges : (t : ℕ) (rs : ℕ → List Reference) (os : ℕ → List ℕ) (n : ℕ)
    → ((k : ℕ) → edges_of (rs k) ≡ map (thread_edge t) (os k)) → edges_of (below rs n) ≡ map (thread_edge t) (below os n)
below-edges t rs os zero each = ap edges_of (below-none rs) ∙ sym (ap (map (thread_edge t)) (below-none os))
below-edges t rs os (suc n) each =
    ap edges_of (below-suc rs n) ∙ map-append edge_of (below rs n) (rs n)
    ∙ ap (λ (es : List Edge). es ++ edges_of (rs n)) (below-edges t rs os n each)
    ∙ ap (λ (es : List Edge). map (thread_edge t) (below os n) ++ es) (each n)
    ∙ sym (map-append (thread_edge t) (below os n) (os n)) ∙ ap (map (thread_edge t)) (sym (below-suc os n))

-- and of two lists
both-edges : (t : ℕ) (rs qs : List Reference) (os ps : List ℕ) → edges_of rs ≡ map (thread_edge t) os
    → edges_of qs ≡ map (thread_edge t) ps → edges_of (rs ++ qs) ≡ map (thread_edge t) (os ++ ps)
both-edges t rs qs os ps first second =
    map-append edge_of rs qs ∙ ap (λ (es : List Edge). es ++ edges_of qs) first
    ∙ ap (λ (es : List Edge). map (thread_edge t) os ++ es) second ∙ sym (map-append (thread_edge t) os ps)

frame-edges : (s : Script) (t d : ℕ) (f : Frame)
    → edges_of (frame_references s t d f) ≡ map (thread_edge t) (frame_objects s f)
frame-edges s t d f =
    let os = variable_objects (passed_lines s f) f in
    let items = copies (kind_item f.kind) 1 in
    both-edges t (below (variable_references s t d f) VARIABLES) (map (held_by (callout t d)) items) (below os VARIABLES) items
    (below-edges t (variable_references s t d f) os VARIABLES (λ v. holder-edges t (variable t d v) (os v) refl))
    (holder-edges t (callout t d) items refl)

-- the edges of a thread lead to what it holds
pub thread-edges : (s : Script) (t : ℕ) (stand : Stand)
    → edges_of (thread_references s t stand) ≡ map (thread_edge t) (held_objects s stand)
thread-edges s t stand =
    let fs = stand.frames in
    let os = owed_objects stand.work in
    both-edges t (frames_references s t fs) (map (held_by (owed t)) os) (frames_objects s fs) os
    (below-edges t (depth_references s t fs) (depth_objects s fs) (length fs) (λ d. frame-edges s t d (frame_at fs d)))
    (holder-edges t (owed t) os refl)

pub thread-added : (s : Script) (t : ℕ) (stand : Stand) (none objects : List ℕ) (before after : List Edge) → none ≡ []
    → objects ≡ none ++ held_objects s stand → after ≡ before ++ map (thread_edge t) objects
    → after ≡ before ++ edges_of (thread_references s t stand)
thread-added s t stand none objects before after empty is added =
    added ∙ ap (λ (os : List ℕ). before ++ map (thread_edge t) os) (is ∙ ap (λ (xs : List ℕ). xs ++ held_objects s stand) empty)
    ∙ ap (λ (es : List Edge). before ++ es) (sym (thread-edges s t stand))

stand-is : (frames : List Standing) (t : ℕ) (d : Standing) → t < length frames
    → stand_at t (stands_of frames) ≡ (get_or frames t d).stand
stand-is [] t d lt = absurd (omega arith)
stand-is (f ∷ fs) zero d lt = refl
stand-is (f ∷ fs) (suc t) d lt = stand-is fs t d (omega (arith, lt))

pub threads-more : (s : Script) (frames : List Standing) (t : ℕ) (d : Standing) (start before after : List Edge)
    → t < length frames → before ≡ start ++ edges_of (below (stand_references s (stands_of frames)) t)
    → after ≡ before ++ edges_of (thread_references s t (get_or frames t d).stand)
    → after ≡ start ++ edges_of (below (stand_references s (stands_of frames)) (t + 1))
threads-more s frames t d start before after lt so_far is =
    edges-more (stand_references s (stands_of frames)) t start before after (edges_of (thread_references s t (get_or frames t d).stand)) so_far is
    (ap (λ (x : Stand). edges_of (thread_references s t x)) (stand-is frames t d lt))

pub variables-more : (frames : List Standing) (t : ℕ) (d : Standing) → t < length frames
    → AllHaveVariables (stands_of frames) t → HasVariables (get_or frames t d).stand.frames
    → AllHaveVariables (stands_of frames) (t + 1)
variables-more frames t d lt all here u less = elim (cases_lt u t) [
  | inl a ↦ all u a
  | inr le ↦
      let e : t ≡ u = omega (arith, le, less) in
      subst (λ (n : ℕ). HasVariables (stand_at n (stands_of frames)).frames) e (subst (λ (x : Stand). HasVariables x.frames) (sym (stand-is frames t d lt)) here)
]

-- ---- slots

some-is : (a b : ℕ) → ◌≡◌ {A = Option ℕ} (Some a) (Some b) → a ≡ b
some-is a b e = cc

take-found : (os : List ℕ) (n o : ℕ) → slice_get os n ≡ Some o → take (suc n) os ≡ take n os ++ o ∷ []
take-found [] n o e = absurd cc
take-found (x ∷ os) zero o e = ap (λ (y : ℕ). y ∷ []) (some-is x o e)
take-found (x ∷ os) (suc n) o e = ap (λ (ys : List ℕ). x ∷ ys) (take-found os n o e)

pub found-within : (os : List ℕ) (n o : ℕ) → slice_get os n ≡ Some o → n < length os
found-within [] n o e = absurd cc
found-within (x ∷ os) zero o e = omega arith
found-within (x ∷ os) (suc n) o e = omega (arith, found-within os n o e)

take-none : (os : List ℕ) (n : ℕ) → slice_get os n ≡ None → take n os ≡ os
take-none [] zero e = refl
take-none [] (suc n) e = refl
take-none (x ∷ os) zero e = absurd cc
take-none (x ∷ os) (suc n) e = ap (λ (ys : List ℕ). x ∷ ys) (take-none os n e)

pub slots-more : (b : ℕ) (os : List ℕ) (given place o : ℕ) (start before after : List Edge) → given ≤ place
    → slice_get os (place - given) ≡ Some o
    → before ≡ start ++ edges_of (map (held_by (slot b)) (take (place - given) os))
    → after ≡ before ++ edge_of (held_by (slot b) o) ∷ []
    → after ≡ start ++ edges_of (map (held_by (slot b)) (take (place + 1 - given) os))
slots-more b os given place o start before after le e so_far is =
    let next : place + 1 - given ≡ suc (place - given) = omega arith in
    let taken_now : take (place + 1 - given) os ≡ take (place - given) os ++ o ∷ [] = ap (λ (n : ℕ). take n os) next ∙ take-found os (place - given) o e in
    let rs = map (held_by (slot b)) (take (place - given) os) in
    is ∙ ap (λ (es : List Edge). es ++ edge_of (held_by (slot b) o) ∷ []) so_far ∙ append_assoc start (edges_of rs) (edge_of (held_by (slot b) o) ∷ [])
    ∙ ap (λ (es : List Edge). start ++ es) (sym (map-append edge_of rs (held_by (slot b) o ∷ [])) ∙ ap edges_of (sym (map-append (held_by (slot b)) (take (place - given) os) (o ∷ []))) ∙ ap (λ (xs : List ℕ). edges_of (map (held_by (slot b)) xs)) (sym taken_now))

pub slots-end : (b : ℕ) (os : List ℕ) (n : ℕ) (start now : List Edge) → slice_get os n ≡ None
    → now ≡ start ++ edges_of (map (held_by (slot b)) (take n os)) → now ≡ start ++ edges_of (map (held_by (slot b)) os)
slots-end b os n start now e is = is ∙ ap (λ (xs : List ℕ). start ++ edges_of (map (held_by (slot b)) xs)) (take-none os n e)
