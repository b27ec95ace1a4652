-- What a table has for variables, and what is kept with the innermost frame last.
use Rattle.std.proofs.Common.{◌≡◌, ℕ, zero, suc, ◌+◌, ◌-◌, ◌≤◌, ◌<◌, Bool, true, false, cond, List, [], ◌∷◌, ◌++◌, length, map, take, drop, reverse, replicate, Option, None, refl, sym, ap, ◌∙◌, arith, inl, inr, length-append}
use Rattle.std.specs.Prelude.{slice_set, slice_index_or}
use Rattle.std.proofs.lemmas.Bool.Decides.{eqb_tells}
use Rattle.std.proofs.lemmas.List.{get_or-set_same, get_or-set_other, length-replicate, length-reverse, length-map, length-drop, length-take, reverse-append, map-append, take-append-drop}
use Rattle.std.proofs.Math.Seq.{take-suc, drop-cons, drop-append_seam, set-append_seam}
use Rattle.cf_ids.specs.declared.limits.TheConstants.{VARIABLES}
use Rattle.cf_next.specs.declared.object.MaybeObject.{MaybeObject}
use Rattle.cf_next.specs.declared.parts.Bound.{Bound}
use Rattle.cf_next.specs.declared.parts.Frame.{Frame as CodeFrame}
use Rattle.cf_next.specs.declared.parts.Kind.{Kind as CodeKind}
use Rattle.cf_next.specs.declared.parts.Kind.TheVariants.{Block, Handler, Run}
use Rattle.cf_next.specs.declared.parts.Run.{Run as CodeRun}
use Rattle.cf_next.specs.Stands.{Binding, look}
use Rattle.cf_next.specs.Stacks.{code_is_run, code_stopped, code_has_run, code_stop, code_run_or, code_run, IsRunAt, last_of}
use Rattle.cf_next.specs.Views.{binding_of, bindings_of, cell_of, object_of}
use Rattle.cf_next.proofs.RowLaws.{reverse-last}

abbrev pub nothing : MaybeObject
nothing = record { number = 4294967295 }

plus-one : (i : ℕ) → i + 1 ≡ suc i
plus-one i = omega arith

same-cell : (n v : ℕ) → slice_index_or (replicate n nothing) v nothing ≡ nothing
same-cell zero v = refl
same-cell (suc n) zero = refl
same-cell (suc n) (suc v) = same-cell n v

pub cells_none : (v : ℕ) → cell_of (replicate VARIABLES nothing) v ≡ None
cells_none v = ap object_of (same-cell VARIABLES v)

pub cells-size : length (replicate VARIABLES nothing) ≡ VARIABLES
cells-size = length-replicate VARIABLES nothing

-- a variable more is bound
pub cell-bound : (b : Bound) (w : ℕ) (bs : List Binding) (table : List MaybeObject) → b.variable < length table
    → ((u : ℕ) → cell_of table u ≡ look u bs)
    → cell_of (slice_set table b.variable b.object) w ≡ look w (binding_of b ∷ bs)
cell-bound b w bs table lt h =
    elim (eqb_tells b.variable w) [
      | inl p ↦ ap (cell_of (slice_set table b.variable b.object)) (sym p.1) ∙ ap object_of (get_or-set_same table b.variable b.object nothing lt) ∙ sym (ap (λ (t : Bool). cond t (object_of b.object) (look w bs)) p.0)
      | inr p ↦ ap object_of (get_or-set_other table b.variable w b.object nothing (λ e. p.1 (sym e))) ∙ h w ∙ sym (ap (λ (t : Bool). cond t (object_of b.object) (look w bs)) p.0)
    ]

bindings-last : (row : List Bound) (b : Bound) → bindings_of (row ++ b ∷ []) ≡ binding_of b ∷ bindings_of row
bindings-last row b = ap (map binding_of) (reverse-last row b)

pub cell-next : (row : List Bound) (i : ℕ) (b : Bound) (table : List MaybeObject) → i < length row
    → b ≡ slice_index_or row i b → b.variable < length table
    → ((u : ℕ) → cell_of table u ≡ look u (bindings_of (take i row))) → (w : ℕ)
    → cell_of (slice_set table b.variable b.object) w ≡ look w (bindings_of (take (i + 1) row))
cell-next row i b table lt e within h w =
    let next : take (i + 1) row ≡ take i row ++ b ∷ [] = ap (λ (k : ℕ). take k row) (plus-one i) ∙ take-suc row i b lt ∙ ap (λ (x : Bound). take i row ++ x ∷ []) (sym e) in
    cell-bound b w (bindings_of (take i row)) table within h ∙ ap (look w) (sym (bindings-last (take i row) b) ∙ ap bindings_of (sym next))

-- ---- what is kept with the first one last

pub kept-last : {A : Type 0} {B : Type 0} (f : A → B) (n : ℕ) (xs : List A) → n ≤ length xs
    → map f (reverse (take n xs)) ≡ last_of n (map f (reverse xs))
kept-last {A = A} {B = B} f n xs h =
    let late : List B = map f (reverse (drop n xs)) in
    let early : List B = map f (reverse (take n xs)) in
    let split : map f (reverse xs) ≡ late ++ early =
    ap (λ (l : List A). map f (reverse l)) (sym (take-append-drop n xs)) ∙ ap (map f) (reverse-append (take n xs) (drop n xs)) ∙ map-append f (reverse (drop n xs)) (reverse (take n xs)) in
    let size : length (map f (reverse xs)) - n ≡ length late =
    omega (arith, length-map (reverse xs) f, length-reverse xs, length-map (reverse (drop n xs)) f, length-reverse (drop n xs), length-drop n xs) in
    sym (ap (λ (k : ℕ). drop k (map f (reverse xs))) size ∙ ap (drop (length late)) split ∙ drop-append_seam late early)

-- ---- the innermost run

first-false : (b c : Bool) → cond b true c ≡ false → b ≡ false
first-false true c h = cc
first-false false c h = refl

later-false : (b c : Bool) → cond b true c ≡ false → c ≡ false
later-false true c h = cc
later-false false c h = h

assoc : {A : Type 0} (xs ys zs : List A) → (xs ++ ys) ++ zs ≡ xs ++ (ys ++ zs)
assoc [] ys zs = refl
assoc (x ∷ xs) ys zs = ap (λ l. x ∷ l) (assoc xs ys zs)

reverse-seam : {A : Type 0} (xs ys : List A) (x : A) → reverse (xs ++ x ∷ ys) ≡ reverse ys ++ x ∷ reverse xs
reverse-seam xs ys x =
    reverse-append xs (x ∷ ys)
    ∙ ap (λ l. l ++ reverse xs) (reverse-append (x ∷ []) ys)
    ∙ assoc (reverse ys) (x ∷ []) (reverse xs)

abbrev pub stopped : CodeFrame → CodeFrame
stopped f = record f { kind = code_stopped f.kind }

stop-past : (ys zs : List CodeFrame) (x : CodeFrame) → code_has_run ys ≡ false → code_is_run x.kind ≡ true
    → code_stop (ys ++ x ∷ zs) ≡ ys ++ stopped x ∷ zs
stop-past [] zs x none is = ap (λ (t : Bool). cond t (stopped x ∷ zs) (x ∷ code_stop zs)) is
stop-past (y ∷ ys) zs x none is =
    ap (λ (t : Bool). cond t (stopped y ∷ (ys ++ x ∷ zs)) (y ∷ code_stop (ys ++ x ∷ zs))) (first-false (code_is_run y.kind) (code_has_run ys) none)
    ∙ ap (λ (fs : List CodeFrame). y ∷ fs) (stop-past ys zs x (later-false (code_is_run y.kind) (code_has_run ys) none) is)

has-past : (ys zs : List CodeFrame) (x : CodeFrame) → code_is_run x.kind ≡ true → code_has_run (ys ++ x ∷ zs) ≡ true
has-past [] zs x is = ap (λ (t : Bool). cond t true (code_has_run zs)) is
has-past (y ∷ ys) zs x is = by (code_is_run y.kind) (has-past ys zs x is)
  where
    by : (b : Bool) → code_has_run (ys ++ x ∷ zs) ≡ true → cond b true (code_has_run (ys ++ x ∷ zs)) ≡ true
    by true h = refl
    by false h = h

pub stop-none : (ys : List CodeFrame) → code_has_run ys ≡ false → code_stop ys ≡ ys
stop-none [] none = refl
stop-none (y ∷ ys) none =
    ap (λ (t : Bool). cond t (stopped y ∷ ys) (y ∷ code_stop ys)) (first-false (code_is_run y.kind) (code_has_run ys) none)
    ∙ ap (λ (fs : List CodeFrame). y ∷ fs) (stop-none ys (later-false (code_is_run y.kind) (code_has_run ys) none))

pub run-or-none : (k : CodeKind) (other : Option CodeRun) → code_is_run k ≡ false → code_run_or k other ≡ other
run-or-none (Block t) other h = refl
run-or-none (Handler k h) other e = refl
run-or-none (Run r) other h = cc

run-or-some : (k : CodeKind) (other : Option CodeRun) → code_is_run k ≡ true → code_run_or k other ≡ code_run_or k None
run-or-some (Block t) other h = cc
run-or-some (Handler k h) other e = cc
run-or-some (Run r) other h = refl

run-past : (ys zs : List CodeFrame) (x : CodeFrame) → code_has_run ys ≡ false → code_is_run x.kind ≡ true
    → code_run (ys ++ x ∷ zs) ≡ code_run_or x.kind None
run-past [] zs x none is = run-or-some x.kind (code_run zs) is
run-past (y ∷ ys) zs x none is =
    run-or-none y.kind (code_run (ys ++ x ∷ zs)) (first-false (code_is_run y.kind) (code_has_run ys) none)
    ∙ run-past ys zs x (later-false (code_is_run y.kind) (code_has_run ys) none) is

pub run-none : (ys : List CodeFrame) → code_has_run ys ≡ false → code_run ys ≡ None
run-none [] none = refl
run-none (y ∷ ys) none =
    run-or-none y.kind (code_run ys) (first-false (code_is_run y.kind) (code_has_run ys) none)
    ∙ run-none ys (later-false (code_is_run y.kind) (code_has_run ys) none)

has-last : (xs : List CodeFrame) (x : CodeFrame) → code_has_run xs ≡ false → code_is_run x.kind ≡ false
    → code_has_run (xs ++ x ∷ []) ≡ false
has-last [] x none is = ap (λ (t : Bool). cond t true false) is
has-last (y ∷ xs) x none is =
    ap (λ (t : Bool). cond t true (code_has_run (xs ++ x ∷ []))) (first-false (code_is_run y.kind) (code_has_run xs) none)
    ∙ has-last xs x (later-false (code_is_run y.kind) (code_has_run xs) none) is

get-seam : {A : Type 0} (xs ys : List A) (x d : A) → slice_index_or (xs ++ x ∷ ys) (length xs) d ≡ x
get-seam [] ys x d = refl
get-seam (a ∷ xs) ys x d = get-seam xs ys x d

cut-at : (fs : List CodeFrame) (i : ℕ) (d : CodeFrame) → i < length fs
    → fs ≡ take i fs ++ slice_index_or fs i d ∷ drop (i + 1) fs
cut-at fs i d lt =
    sym (take-append-drop i fs)
    ∙ ap (λ (l : List CodeFrame). take i fs ++ l) (drop-cons fs i d lt)
    ∙ ap (λ (k : ℕ). take i fs ++ slice_index_or fs i d ∷ drop k fs) (sym (plus-one i))

-- a run at a place
module _ (fs : List CodeFrame) (i : ℕ) (at : IsRunAt fs i) (d : CodeFrame) where
  abbrev pub x : CodeFrame
  x = slice_index_or fs i d

  reversed : reverse fs ≡ reverse (drop (i + 1) fs) ++ x ∷ reverse (take i fs)
  reversed = ap reverse (cut-at fs i d at.within) ∙ reverse-seam (take i fs) (drop (i + 1) fs) x

  pub stop-at : reverse (slice_set fs i (stopped x)) ≡ code_stop (reverse fs)
  stop-at =
      ap reverse (ap (λ (l : List CodeFrame). slice_set l i (stopped x)) (cut-at fs i d at.within) ∙ ap (λ (k : ℕ). slice_set (take i fs ++ x ∷ drop (i + 1) fs) k (stopped x)) (omega (arith, length-take i fs, at.within)) ∙ set-append_seam (take i fs) x (drop (i + 1) fs) (stopped x))
      ∙ reverse-seam (take i fs) (drop (i + 1) fs) (stopped x)
      ∙ sym (ap code_stop reversed ∙ stop-past (reverse (drop (i + 1) fs)) (reverse (take i fs)) x at.others (at.here d))

  pub has-at : code_has_run (reverse fs) ≡ true
  has-at = ap code_has_run reversed ∙ has-past (reverse (drop (i + 1) fs)) (reverse (take i fs)) x (at.here d)

  pub run-here : code_run (reverse fs) ≡ code_run_or x.kind None
  run-here = ap code_run reversed ∙ run-past (reverse (drop (i + 1) fs)) (reverse (take i fs)) x at.others (at.here d)

-- the search for it
module _ (fs rest others : List CodeFrame) (last : CodeFrame) (e : rest ≡ others ++ last ∷ []) (begins : rest ≡ take (length rest) fs) (past : code_has_run (reverse (drop (length rest) fs)) ≡ false) (within : length rest ≤ length fs) where
  abbrev pub tail : List CodeFrame
  tail = drop (length rest) fs

  split : fs ≡ others ++ last ∷ tail
  split =
      sym (take-append-drop (length rest) fs)
      ∙ ap (λ (l : List CodeFrame). l ++ tail) (sym begins ∙ e)
      ∙ assoc others (last ∷ []) tail

  size : length rest ≡ length others + 1
  size = ap length e ∙ length-append others (last ∷ [])

  pub found-at : code_is_run last.kind ≡ true → IsRunAt fs (length others)
  found-at is = record {
    within = omega (arith, size, within);
    here = λ d. ap (λ (f : CodeFrame). code_is_run f.kind) (ap (λ (l : List CodeFrame). slice_index_or l (length others) d) split ∙ get-seam others tail last d) ∙ is;
    others = ap (λ (k : ℕ). code_has_run (reverse (drop k fs))) (sym size) ∙ past;
  }

  pub past-next : code_is_run last.kind ≡ false → code_has_run (reverse (drop (length others) fs)) ≡ false
  past-next is =
      ap (λ (l : List CodeFrame). code_has_run (reverse l)) (ap (drop (length others)) split ∙ drop-append_seam others (last ∷ tail))
      ∙ ap code_has_run (reverse-append (last ∷ []) tail)
      ∙ has-last (reverse tail) last past is

pub past-all : (fs rest : List CodeFrame) → length rest ≡ 0 → code_has_run (reverse (drop (length rest) fs)) ≡ false
    → code_has_run (reverse fs) ≡ false
past-all fs rest n past = ap (λ (k : ℕ). code_has_run (reverse (drop k fs))) (sym n) ∙ past
