-- The lists of what a thread has references to, one element more, and the counts of lines, one line more.
use Rattle.std.proofs.Common.{◌≡◌, ℕ, zero, suc, ◌+◌, ◌-◌, ◌<◌, ◌≤◌, ◌^◌, List, [], ◌∷◌, ◌++◌, length, take, replicate, get_or, Option, Some, None, inl, inr, refl, sym, ap, ◌∙◌, subst, arith, append_assoc}
use Rattle.std.specs.Prelude.{slice_get}
use Rattle.std.proofs.lemmas.Bool.{cases_lt}
use Rattle.cf_ids.specs.declared.limits.TheConstants.{VARIABLES}
use Rattle.cf_syntax.specs.declared.counts.Counts.{Counts}
use Rattle.cf_syntax.specs.declared.script.Script.{Script}
use Rattle.cf_syntax.specs.BlockLines.{BlockLine}
use Rattle.cf_syntax.specs.Counting.{Counted, HasRoom}
use Rattle.cf_syntax.specs.Owned.{given, bound_by, given_by, released_by}
use Rattle.cf_syntax.proofs.OwnedLaws.{total_le, bound_by_le, given_by_le, taken_by_le}
use Rattle.cf_next.specs.declared.object.MaybeObject.{MaybeObject}
use Rattle.cf_next.specs.declared.parts.Work.{Work as CodeWork}
use Rattle.cf_next.specs.Stands.{look, Frame, Kind, Stand, Work, release_of, spend_of, slots_of}
use Rattle.cf_next.specs.Advance.{kind_item}
use Rattle.cf_next.specs.Demands.{frame_lines}
use Rattle.cf_next.specs.Views.{cell_of, object_of, work_of, works_of}
use Rattle.cf_next.specs.Held.{HaveVariables, below, copies, counted_objects, frame_at, frame_objects, frames_objects, held_objects, owed_objects, passed_lines, variable_objects}
use Rattle.cf_next.proofs.CallLaws.{works-last}
use Rattle.cf_next.proofs.DepthLaws.{get-any}

pub below-none : {A : Type 0} (f : ℕ → List A) → below f 0 ≡ []
unfolding below
below-none f = refl

pub below-suc : {A : Type 0} (f : ℕ → List A) (n : ℕ) → below f (suc n) ≡ below f n ++ f n
unfolding below
below-suc f n = refl

pub below-more : {A : Type 0} (f : ℕ → List A) (n : ℕ) → below f (n + 1) ≡ below f n ++ f n
below-more f n = let e : n + 1 ≡ suc n = omega arith in ap (below f) e ∙ below-suc f n

-- what is after one list more
pub lists-more : {A : Type 0} (f : ℕ → List A) (n : ℕ) (start before after more : List A) → before ≡ start ++ below f n
    → after ≡ before ++ more → f n ≡ more → after ≡ start ++ below f (n + 1)
lists-more {A = A} f n start before after more so_far is here =
    is ∙ ap (λ (xs : List A). xs ++ more) so_far ∙ append_assoc start (below f n) more
    ∙ ap (λ (xs : List A). start ++ (below f n ++ xs)) (sym here)
    ∙ ap (λ (xs : List A). start ++ xs) (sym (below-more f n))

pub below-same : {A : Type 0} (f g : ℕ → List A) (n : ℕ) → ((i : ℕ) → i < n → f i ≡ g i) → below f n ≡ below g n
below-same f g zero h = below-none f ∙ sym (below-none g)
below-same {A = A} f g (suc n) h =
    below-suc f n ∙ ap (λ (xs : List A). xs ++ f n) (below-same f g n (λ i lt. h i (omega (arith, lt))))
    ∙ ap (λ (xs : List A). below g n ++ xs) (h n (omega arith)) ∙ sym (below-suc g n)

-- one copy more
pub copies-more : {A : Type 0} (x : A) (n : ℕ) (start before after : List A) → before ≡ start ++ replicate n x
    → after ≡ before ++ x ∷ [] → after ≡ start ++ replicate (n + 1) x
copies-more {A = A} x n start before after so_far is =
    let e : n + 1 ≡ suc n = omega arith in
    is ∙ ap (λ (xs : List A). xs ++ x ∷ []) so_far ∙ append_assoc start (replicate n x) (x ∷ []) ∙ ap (λ (xs : List A). start ++ xs) (last n ∙ ap (λ (k : ℕ). replicate k x) (sym e))
  where
    last : (n : ℕ) → replicate n x ++ x ∷ [] ≡ replicate (suc n) x
    last zero = refl
    last (suc n) = ap (λ (xs : List A). x ∷ xs) (last n)

-- ---- lines

take-found : (xs : List BlockLine) (n : ℕ) (x : BlockLine) → slice_get xs n ≡ Some x
    → take (n + 1) xs ≡ take n xs ++ x ∷ []
take-found xs n x e = let next : n + 1 ≡ suc n = omega arith in ap (λ (k : ℕ). take k xs) next ∙ by xs n e
  where
    by : (xs : List BlockLine) (n : ℕ) → slice_get xs n ≡ Some x → take (suc n) xs ≡ take n xs ++ x ∷ []
    by [] n e = absurd cc
    by (y ∷ xs) zero e = let same : y ≡ x = cc in ap (λ (z : BlockLine). z ∷ []) same
    by (y ∷ xs) (suc n) e = ap (λ (zs : List BlockLine). y ∷ zs) (by xs n e)

take-none : (xs : List BlockLine) (n : ℕ) → slice_get xs n ≡ None → take (n + 1) xs ≡ take n xs
take-none xs n e = let next : n + 1 ≡ suc n = omega arith in ap (λ (k : ℕ). take k xs) next ∙ by xs n e
  where
    by : (xs : List BlockLine) (n : ℕ) → slice_get xs n ≡ None → take (suc n) xs ≡ take n xs
    by [] zero e = refl
    by [] (suc n) e = refl
    by (y ∷ xs) zero e = absurd cc
    by (y ∷ xs) (suc n) e = ap (λ (zs : List BlockLine). y ∷ zs) (by xs n e)

pub counted-line : (c : Counts) (xs : List BlockLine) (n : ℕ) (x : BlockLine) → slice_get xs n ≡ Some x
    → Counted c (take n xs ++ x ∷ []) → Counted c (take (n + 1) xs)
counted-line c xs n x e h = subst (Counted c) (sym (take-found xs n x e)) h

pub counted-none : (c : Counts) (xs : List BlockLine) (n : ℕ) → slice_get xs n ≡ None → Counted c (take n xs)
    → Counted c (take (n + 1) xs)
counted-none c xs n e h = subst (Counted c) (sym (take-none xs n e)) h

length-take-le : (n : ℕ) (xs : List BlockLine) → length (take n xs) ≤ n
length-take-le zero [] = omega arith
length-take-le zero (x ∷ xs) = omega arith
length-take-le (suc n) [] = omega arith
length-take-le (suc n) (x ∷ xs) = omega (arith, length-take-le n xs)

-- running counts of fewer than 2^64 lines can rise
pub room-for-line : (c : Counts) (xs : List BlockLine) (n : ℕ) → Counted c (take n xs) → n + 1 < 2 ^ 64 → HasRoom c 1
room-for-line c xs n counted few =
    let small = length-take-le n xs in
    record {
      binds = λ v lt. omega (arith, small, counted.binds v lt, total_le (bound_by v) (bound_by_le v) (take n xs));
      gives = λ v lt. omega (arith, small, counted.gives v lt, total_le (given_by v) (given_by_le v) (take n xs));
      takes = λ v lt. omega (arith, small, counted.takes v lt, total_le (released_by v) (taken_by_le v) (take n xs));
    }

-- ---- work

pub owed-append : (us vs : List Work) → owed_objects (us ++ vs) ≡ owed_objects us ++ owed_objects vs
owed-append [] vs = refl
owed-append (release_of o ∷ us) vs = ap (λ (os : List ℕ). o ∷ os) (owed-append us vs)
owed-append (spend_of i ∷ us) vs = owed-append us vs
owed-append (slots_of b k ∷ us) vs = owed-append us vs

-- ---- variables

pub variable-more : (table : List MaybeObject) (c : Counts) (v : ℕ) (d : MaybeObject) (found : Option ℕ) (n : ℕ)
    (start before after : List ℕ)
    → v < length table → found ≡ object_of (get_or table v d)
    → n ≡ get_or c.given v 0 - get_or c.released v 0 → before ≡ start ++ below (counted_objects table c) v → after ≡ before ++ copies found n → after ≡ start ++ below (counted_objects table c) (v + 1)
variable-more table c v d found n start before after lt is size so_far added =
    lists-more (counted_objects table c) v start before after (copies found n) so_far added
    (ap (λ (x : MaybeObject). copies (object_of x) (get_or c.given v 0 - get_or c.released v 0)) (get-any table v (record { number = 4294967295 }) d lt)
    ∙ ap (λ (k : ℕ). copies (object_of (get_or table v d)) k) (sym size) ∙ ap (λ (x : Option ℕ). copies x n) (sym is))

-- a number past those of variables has nothing
pub cell-past : (table : List MaybeObject) (v : ℕ) → length table ≤ v → cell_of table v ≡ None
cell-past [] v le = refl
cell-past (x ∷ xs) zero le = absurd (omega arith)
cell-past (x ∷ xs) (suc v) le = cell-past xs v (omega (arith, le))

-- the counts are those of the lines, and the table has what is bound
pub counted-same : (table : List MaybeObject) (c : Counts) (done : List BlockLine) (f : Frame) → Counted c done
    → ((v : ℕ) → cell_of table v ≡ look v f.bindings)
    → below (counted_objects table c) VARIABLES ≡ below (variable_objects done f) VARIABLES
counted-same table c done f t cells =
    below-same (counted_objects table c) (variable_objects done f) VARIABLES
    (λ v small. ap (λ (found : Option ℕ). copies found (get_or c.given v 0 - get_or c.released v 0)) (cells v)
    ∙ ap (λ (n : ℕ). copies (look v f.bindings) (n - get_or c.released v 0)) (t.gives v small) ∙ ap (λ (n : ℕ). copies (look v f.bindings) (given v done - n)) (t.takes v small))

-- what is appended of a frame one after another is all that it has references to
pub frame-whole : (s : Script) (f : Frame) (table : List MaybeObject) (c : Counts) (k : Kind) (b n : ℕ)
    (item : Option ℕ) (start first after : List ℕ)
    → Counted c (take n (frame_lines s k b)) → n ≡ f.number → k ≡ f.kind → b ≡ f.block
    → ((v : ℕ) → cell_of table v ≡ look v f.bindings) → item ≡ kind_item k
    → first ≡ start ++ below (counted_objects table c) VARIABLES → after ≡ first ++ copies item 1 → after ≡ start ++ frame_objects s f
frame-whole s f table c k b n item start first after counted number kind block cells called variables is =
    let passed : Counted c (passed_lines s f) =
    subst (λ (m : ℕ). Counted c (take m (frame_lines s f.kind f.block))) number
    (subst (λ (j : Kind). Counted c (take n (frame_lines s j f.block))) kind
    (subst (λ (a : ℕ). Counted c (take n (frame_lines s k a))) block counted)) in
    let variables_of : List ℕ = below (variable_objects (passed_lines s f) f) VARIABLES in
    is ∙ ap (λ (o : Option ℕ). first ++ copies o 1) (called ∙ ap kind_item kind)
    ∙ ap (λ (xs : List ℕ). xs ++ copies (kind_item f.kind) 1) (variables ∙ ap (λ (xs : List ℕ). start ++ xs) (counted-same table c (passed_lines s f) f passed cells))
    ∙ append_assoc start variables_of (copies (kind_item f.kind) 1)

-- the variables of one frame more
pub have-more : (fs : List Frame) (n : ℕ) → HaveVariables fs n
    → ((v : ℕ) → VARIABLES ≤ v → look v (frame_at fs n).bindings ≡ None) → HaveVariables fs (n + 1)
have-more fs n all here d v less le = elim (cases_lt d n) [
  | inl lt ↦ all d v lt le
  | inr ge ↦
      let e : n ≡ d = omega (arith, ge, less) in ap (λ (k : ℕ). look v (frame_at fs k).bindings) (sym e) ∙ here v le
]

-- what is appended one after another is all that is held
pub held-whole : (s : Script) (stand : Stand) (fs : List Frame) (work : List Work) (start first after : List ℕ)
    → fs ≡ stand.frames → work ≡ stand.work → first ≡ start ++ frames_objects s fs → after ≡ first ++ owed_objects work
    → after ≡ start ++ held_objects s stand
held-whole s stand fs work start first after same is framed owed =
    owed ∙ ap (λ (ws : List Work). first ++ owed_objects ws) is
    ∙ ap (λ (xs : List ℕ). xs ++ owed_objects stand.work) (framed ∙ ap (λ (gs : List Frame). start ++ frames_objects s gs) same)
    ∙ append_assoc start (frames_objects s stand.frames) (owed_objects stand.work)

-- one item of work more, of which the first stands last
pub owed-more : (ws xs : List CodeWork) (x : CodeWork) (before after all : List ℕ) → ws ≡ xs ++ x ∷ []
    → before ++ owed_objects (works_of ws) ≡ all → after ≡ before ++ owed_objects (work_of x ∷ [])
    → after ++ owed_objects (works_of xs) ≡ all
owed-more ws xs x before after all split so_far added =
    ap (λ (os : List ℕ). os ++ owed_objects (works_of xs)) added ∙ append_assoc before (owed_objects (work_of x ∷ [])) (owed_objects (works_of xs))
    ∙ ap (λ (os : List ℕ). before ++ os) (sym (owed-append (work_of x ∷ []) (works_of xs)))
    ∙ ap (λ (us : List Work). before ++ owed_objects us) (sym (works-last xs x) ∙ ap works_of (sym split)) ∙ so_far
