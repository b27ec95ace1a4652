-- The frames of a thread as contracts see them.
use Rattle.std.proofs.Common.{◌≡◌, ℕ, suc, ◌≤◌, ◌<◌, Bool, true, false, cond, List, [], ◌∷◌, ◌++◌, length, take, drop, reverse, None, refl, sym, ap, ◌∙◌, subst, arith}
use Rattle.std.specs.Option.{option_map}
use Rattle.cf_ids.specs.declared.limits.TheConstants.{VARIABLES}
use Rattle.cf_next.specs.declared.object.MaybeObject.{MaybeObject}
use Rattle.cf_next.specs.declared.parts.Bound.{Bound}
use Rattle.cf_next.specs.declared.parts.Callee.{Callee as CodeCallee}
use Rattle.cf_next.specs.declared.parts.Frame.{Frame as CodeFrame}
use Rattle.cf_next.specs.declared.parts.Kind.{Kind as CodeKind}
use Rattle.cf_next.specs.declared.parts.Kind.TheVariants.{Block, Handler, Run}
use Rattle.cf_next.specs.Stands.{Role, look, is_run, stop_kind, stop_frames, has_run}
use Rattle.cf_next.specs.Advance.{kind_called, on_top}
use Rattle.cf_next.specs.Standing.{run_or, innermost_run}
use Rattle.cf_next.specs.Grids.{top_row, on_top_row}
use Rattle.cf_next.specs.Stacks.{frames_from, is_block, IsBased, IsStack, with_called, code_run_or, code_run, code_is_run, code_stopped, code_has_run, code_stop}
use Rattle.cf_next.specs.Views.{bindings_of, block_in, callee_of, cell_of, frame_of, kind_of, turn_of}
use Rattle.cf_next.proofs.RowLaws.{reverse-last}
use Rattle.cf_next.proofs.StackLaws.{kept-last}

-- ---- the outermost frame

pub based-same : (f g : CodeFrame) (fs : List CodeFrame) → is_block (kind_of g.kind) ≡ is_block (kind_of f.kind)
    → IsBased (f ∷ fs) → IsBased (g ∷ fs)
based-same f g [] e h = e ∙ h
based-same f g (x ∷ fs) e h = h

block-stopped : (k : CodeKind) → is_block (kind_of (code_stopped k)) ≡ is_block (kind_of k)
block-stopped (Block t) = refl
block-stopped (Handler c h) = refl
block-stopped (Run r) = refl

pub based-stop : (f : CodeFrame) (fs : List CodeFrame) → IsBased (f ∷ fs) → IsBased (f ∷ code_stop fs)
based-stop f [] h = h
based-stop f (g ∷ fs) h = by (code_is_run g.kind) (based-stop g fs h)
  where
    by : (b : Bool) → IsBased (g ∷ code_stop fs)
        → IsBased (f ∷ cond b (record g { kind = code_stopped g.kind } ∷ fs) (g ∷ code_stop fs))
    by true e = based-same g (record g { kind = code_stopped g.kind }) fs (block-stopped g.kind) h
    by false e = e

pub length-stop : (fs : List CodeFrame) → length (code_stop fs) ≡ length fs
length-stop [] = refl
length-stop (g ∷ fs) = by (code_is_run g.kind) (length-stop fs)
  where
    by : (b : Bool) → length (code_stop fs) ≡ length fs
        → length (cond b (record g { kind = code_stopped g.kind } ∷ fs) (g ∷ code_stop fs)) ≡ suc (length fs)
    by true e = refl
    by false e = ap suc e

-- ---- a stack

pub new-stack : (t : ℕ) (below : List CodeFrame) (bs : List (List Bound)) (ks : List (List CodeCallee))
    (table : List MaybeObject)
    → below ≡ [] → bs ≡ [] ∷ [] → ks ≡ [] ∷ [] → length table ≡ VARIABLES → ((v : ℕ) → cell_of table v ≡ None)
    → IsStack (record { kind = Block t; number = 0 } ∷ reverse below) bs ks table
new-stack t below bs ks table e eb ek size none =
    rw (e, eb, ek) (record { based = refl; bindings_each = refl; collected_each = refl; table_size = size; table_is = none })

pub push-stack : (f top : CodeFrame) (below new : List CodeFrame) (bs : List (List Bound)) (ks : List (List CodeCallee))
    (table table' : List MaybeObject)
    → IsStack (top ∷ reverse below) bs ks table → new ≡ below ++ top ∷ [] → length table' ≡ VARIABLES
    → ((v : ℕ) → cell_of table' v ≡ None) → IsStack (f ∷ reverse new) ([] ∷ bs) ([] ∷ ks) table'
push-stack f top below new bs ks table table' h e size none =
    rw (e, reverse-last below top) (record {
      based = h.based;
      bindings_each = ap suc h.bindings_each;
      collected_each = ap suc h.collected_each;
      table_size = size;
      table_is = none;
    })

less-one : {A : Type 0} (xs : List A) (n : ℕ) → length xs ≡ suc n → length (drop 1 xs) ≡ n
less-one [] n h = cc
less-one (x ∷ xs) n h = omega (arith, h)

pub pop-stack : (f top : CodeFrame) (below new : List CodeFrame) (bs : List (List Bound)) (ks : List (List CodeCallee))
    (table table' : List MaybeObject)
    → IsStack (top ∷ reverse below) bs ks table → below ≡ new ++ f ∷ [] → length table' ≡ VARIABLES
    → ((v : ℕ) → cell_of table' v ≡ look v (bindings_of (top_row (drop 1 bs))))
    → IsStack (f ∷ reverse new) (drop 1 bs) (drop 1 ks) table'
pop-stack f top below new bs ks table table' h e size is =
    let r : reverse below ≡ f ∷ reverse new = ap reverse e ∙ reverse-last new f in
    record {
      based = subst (λ (fs : List CodeFrame). IsBased (top ∷ fs)) r h.based;
      bindings_each = less-one bs (length (f ∷ reverse new)) (h.bindings_each ∙ ap (λ (fs : List CodeFrame). suc (length fs)) r);
      collected_each = less-one ks (length (f ∷ reverse new)) (h.collected_each ∙ ap (λ (fs : List CodeFrame). suc (length fs)) r);
      table_size = size;
      table_is = is;
    }

pub stop-stack : (top : CodeFrame) (fs gs : List CodeFrame) (bs : List (List Bound)) (ks : List (List CodeCallee))
    (table : List MaybeObject)
    → IsStack (top ∷ fs) bs ks table → gs ≡ code_stop fs → IsStack (top ∷ gs) bs ks table
stop-stack top fs gs bs ks table h e =
    rw e (record {
      based = based-stop top fs h.based;
      bindings_each = h.bindings_each ∙ ap suc (sym (length-stop fs));
      collected_each = h.collected_each ∙ ap suc (sym (length-stop fs));
      table_size = h.table_size;
      table_is = h.table_is;
    })

pub same-stack : (f : CodeFrame) (k : CodeKind) (fs : List CodeFrame) (bs : List (List Bound))
    (ks ks' : List (List CodeCallee)) (table : List MaybeObject)
    → IsStack (f ∷ fs) bs ks table → is_block (kind_of k) ≡ is_block (kind_of f.kind) → length ks' ≡ length ks
    → IsStack (record f { kind = k } ∷ fs) bs ks' table
same-stack f k fs bs ks ks' table h e size = record {
  based = based-same f (record f { kind = k }) fs e h.based;
  bindings_each = h.bindings_each;
  collected_each = size ∙ h.collected_each;
  table_size = h.table_size;
  table_is = h.table_is;
}

-- ---- frames

pub called-frames : (role : Role) (left : ℕ) (f : CodeFrame) (k : CodeKind) (fs : List CodeFrame)
    (bs : List (List Bound)) (ks ks' : List (List CodeCallee))
    → kind_of k ≡ kind_called role (kind_of f.kind) → block_in k ≡ block_in f.kind
    → ks' ≡ on_top_row (λ r. take left r) ks → 0 < length ks → left ≤ length (top_row ks)
    → frames_from (record f { kind = k } ∷ fs) bs ks' ≡ on_top (with_called role left) (frames_from (f ∷ fs) bs ks)
called-frames role left f k fs bs [] ks' e eb ek some h = absurd (omega (arith, some))
called-frames role left f k fs bs (c ∷ cs) ks' e eb ek some h = rw (ek, e, eb, kept-last callee_of left c h) refl

pub run-view : (fs : List CodeFrame) (bs : List (List Bound)) (ks : List (List CodeCallee))
    → option_map turn_of (code_run fs) ≡ innermost_run (frames_from fs bs ks)
run-view [] bs ks = refl
run-view (f ∷ fs) bs ks = by f.kind ∙ ap (run_or (kind_of f.kind)) (run-view fs (drop 1 bs) (drop 1 ks))
  where
    by : (k : CodeKind)
        → option_map turn_of (code_run_or k (code_run fs)) ≡ run_or (kind_of k) (option_map turn_of (code_run fs))
    by (Block t) = refl
    by (Handler c h) = refl
    by (Run r) = refl

run-kind : (k : CodeKind) → code_is_run k ≡ is_run (kind_of k)
run-kind (Block t) = refl
run-kind (Handler c h) = refl
run-kind (Run r) = refl

stop-kind : (k : CodeKind) → kind_of (code_stopped k) ≡ stop_kind (kind_of k)
stop-kind (Block t) = refl
stop-kind (Handler c h) = refl
stop-kind (Run r) = refl

block-kind : (k : CodeKind) → block_in (code_stopped k) ≡ block_in k
block-kind (Block t) = refl
block-kind (Handler c h) = refl
block-kind (Run r) = refl

pub has-view : (fs : List CodeFrame) (bs : List (List Bound)) (ks : List (List CodeCallee))
    → code_has_run fs ≡ has_run (frames_from fs bs ks)
has-view [] bs ks = refl
has-view (f ∷ fs) bs ks =
    ap (λ (b : Bool). cond b true (code_has_run fs)) (run-kind f.kind) ∙ ap (λ (b : Bool). cond (is_run (kind_of f.kind)) true b) (has-view fs (drop 1 bs) (drop 1 ks))

pub stop-view : (fs : List CodeFrame) (bs : List (List Bound)) (ks : List (List CodeCallee))
    → frames_from (code_stop fs) bs ks ≡ stop_frames (frames_from fs bs ks)
stop-view [] bs ks = refl
stop-view (f ∷ fs) bs ks = by (code_is_run f.kind) (stop-view fs (drop 1 bs) (drop 1 ks)) ∙ ap (λ (b : Bool). cond b (record (frame_of f (top_row bs) (top_row ks)) { kind = stop_kind (kind_of f.kind) } ∷ frames_from fs (drop 1 bs) (drop 1 ks)) (frame_of f (top_row bs) (top_row ks) ∷ stop_frames (frames_from fs (drop 1 bs) (drop 1 ks)))) (run-kind f.kind)
  where
    by : (b : Bool)
        → frames_from (code_stop fs) (drop 1 bs) (drop 1 ks) ≡ stop_frames (frames_from fs (drop 1 bs) (drop 1 ks))
        → frames_from (cond b (record f { kind = code_stopped f.kind } ∷ fs) (f ∷ code_stop fs)) bs ks ≡ cond b (record (frame_of f (top_row bs) (top_row ks)) { kind = stop_kind (kind_of f.kind) } ∷ frames_from fs (drop 1 bs) (drop 1 ks)) (frame_of f (top_row bs) (top_row ks) ∷ stop_frames (frames_from fs (drop 1 bs) (drop 1 ks)))
    by true e = rw (stop-kind f.kind, block-kind f.kind) refl
    by false e = ap (λ x. frame_of f (top_row bs) (top_row ks) ∷ x) e

-- each frame of the code is one of the stand
pub frames-size : (fs : List CodeFrame) (bindings : List (List Bound)) (collected : List (List CodeCallee))
    → length (frames_from fs bindings collected) ≡ length fs
frames-size [] bindings collected = refl
frames-size (f ∷ fs) bindings collected = ap suc (frames-size fs (drop 1 bindings) (drop 1 collected))
