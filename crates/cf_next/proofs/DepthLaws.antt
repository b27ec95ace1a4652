-- What stands in a list at a depth: of rows, of frames, and of lists that are kept with the topmost element last.
use Rattle.std.proofs.Common.{◌≡◌, ℕ, zero, suc, ◌+◌, ◌-◌, ◌<◌, ◌≤◌, Bool, cond, List, [], ◌∷◌, ◌++◌, length, take, drop, reverse, refl, sym, ap, ◌∙◌, arith, inl, inr, length-append}
use Rattle.std.specs.Prelude.{slice_index_or}
use Rattle.std.proofs.lemmas.Bool.Decides.{eqb_tells}
use Rattle.std.proofs.lemmas.List.{take_all, take-take, drop-take, length-take, length-reverse, reverse-append}
use Rattle.cf_next.specs.declared.parts.Bound.{Bound}
use Rattle.cf_next.specs.declared.parts.Callee.{Callee as CodeCallee}
use Rattle.cf_next.specs.declared.parts.Frame.{Frame as CodeFrame}
use Rattle.cf_next.specs.Stands.{Frame}
use Rattle.cf_next.specs.Grids.{at_depth, rows_of, AreNested}
use Rattle.cf_next.specs.Held.{IsFrameAt, frame_at}
use Rattle.cf_next.specs.Next.{top_frame}
use Rattle.cf_next.specs.Stacks.{frames_from}
use Rattle.cf_next.specs.Views.{frame_of}
use Rattle.cf_next.proofs.FrameLaws.{frames-size}

pub at-top : {A : Type 0} (a x : A) (xs : List A) (d : ℕ) → length xs ≡ d → at_depth a (x ∷ xs) d ≡ x
at-top a x xs d e = elim (eqb_tells (length xs) d) [
  | inl p ↦ ap (λ (b : Bool). cond b x (at_depth a xs d)) p.0
  | inr p ↦ absurd (p.1 e)
]

pub at-other : {A : Type 0} (a x : A) (xs : List A) (d : ℕ) → (length xs ≡ d → ⊥)
    → at_depth a (x ∷ xs) d ≡ at_depth a xs d
at-other a x xs d apart = elim (eqb_tells (length xs) d) [
  | inl p ↦ absurd (apart p.1)
  | inr p ↦ ap (λ (b : Bool). cond b x (at_depth a xs d)) p.0
]

pub at-past : {A : Type 0} (a : A) (xs : List A) (d : ℕ) → length xs ≤ d → at_depth a xs d ≡ a
at-past a [] d le = refl
at-past a (x ∷ xs) d le = at-other a x xs d (λ e. omega (arith, e, le)) ∙ at-past a xs d (omega (arith, le))

-- the default does not matter where there is an element
at-any : {A : Type 0} (a b : A) (xs : List A) (d : ℕ) → d < length xs → at_depth a xs d ≡ at_depth b xs d
at-any a b [] d lt = absurd (omega (arith, lt))
at-any a b (x ∷ xs) d lt = elim (eqb_tells (length xs) d) [
  | inl p ↦ at-top a x xs d p.1 ∙ sym (at-top b x xs d p.1)
  | inr p ↦
      let apart : length xs ≡ d → ⊥ = p.1 in
      at-other a x xs d apart ∙ at-any a b xs d (below (length xs) d apart lt) ∙ sym (at-other b x xs d apart)
]
  where
    below : (n d : ℕ) → (n ≡ d → ⊥) → d < suc n → d < n
    below n d apart lt = omega arith

-- below the topmost element it may stand as the default
pub at-lower : {A : Type 0} (a x : A) (xs : List A) (d : ℕ) → d ≤ length xs → at_depth a (x ∷ xs) d ≡ at_depth x xs d
at-lower a x xs d le = elim (eqb_tells (length xs) d) [
  | inl p ↦ at-top a x xs d p.1 ∙ sym (at-past x xs d (omega (arith, p.1)))
  | inr p ↦
      let apart : length xs ≡ d → ⊥ = p.1 in at-other a x xs d apart ∙ at-any a x xs d (below (length xs) d apart le)
]
  where
    below : (n d : ℕ) → (n ≡ d → ⊥) → d ≤ n → d < n
    below n d apart le = omega arith

-- ---- lists that are kept with the topmost element last

at-first : {A : Type 0} (a x : A) (ys : List A) → at_depth a (ys ++ x ∷ []) 0 ≡ x
at-first a x [] = at-top a x [] 0 refl
at-first {A = A} a x (y ∷ ys) =
    let size = length-append ys (x ∷ []) in
    at-other a y (ys ++ x ∷ []) 0 (λ e. omega (arith, e, size)) ∙ at-first a x ys

at-later : {A : Type 0} (a x : A) (ys : List A) (d : ℕ) → at_depth a (ys ++ x ∷ []) (suc d) ≡ at_depth a ys d
at-later a x [] d = at-other a x [] (suc d) (λ e. omega (arith, e))
at-later a x (y ∷ ys) d =
    let size : length (ys ++ x ∷ []) ≡ suc (length ys) = omega (arith, length-append ys (x ∷ [])) in
    elim (eqb_tells (length ys) d) [
      | inl p ↦ at-top a y (ys ++ x ∷ []) (suc d) (size ∙ ap suc p.1) ∙ sym (at-top a y ys d p.1)
      | inr p ↦
          let apart : length ys ≡ d → ⊥ = p.1 in
          at-other a y (ys ++ x ∷ []) (suc d) (λ e. apart (omega (arith, e, size))) ∙ at-later a x ys d ∙ sym (at-other a y ys d apart)
    ]

at-reverse : {A : Type 0} (a : A) (xs : List A) (d : ℕ) → at_depth a (reverse xs) d ≡ slice_index_or xs d a
at-reverse a [] d = refl
at-reverse {A = A} a (x ∷ xs) zero =
    ap (λ (ys : List A). at_depth a ys 0) (reverse-append (x ∷ []) xs) ∙ at-first a x (reverse xs)
at-reverse {A = A} a (x ∷ xs) (suc d) =
    ap (λ (ys : List A). at_depth a ys (suc d)) (reverse-append (x ∷ []) xs) ∙ at-later a x (reverse xs) d ∙ at-reverse a xs d

pub get-any : {A : Type 0} (xs : List A) (d : ℕ) (a b : A) → d < length xs
    → slice_index_or xs d a ≡ slice_index_or xs d b
get-any [] d a b lt = absurd (omega (arith, lt))
get-any (x ∷ xs) zero a b lt = refl
get-any (x ∷ xs) (suc d) a b lt = get-any xs d a b (omega (arith, lt))

-- the same with a topmost element that stands elsewhere
pub at-kept : {A : Type 0} (a b top : A) (xs : List A) (d : ℕ) → d < length xs
    → at_depth a (top ∷ reverse xs) d ≡ slice_index_or xs d b
at-kept a b top xs d lt =
    at-lower a top (reverse xs) d (omega (arith, lt, length-reverse xs)) ∙ at-reverse top xs d ∙ get-any xs d top b lt

pub at-topmost : {A : Type 0} (a top : A) (xs : List A) (d : ℕ) → d ≡ length xs → at_depth a (top ∷ reverse xs) d ≡ top
at-topmost a top xs d e = at-top a top (reverse xs) d (length-reverse xs ∙ sym e)

-- ---- rows

pub rows-count : {A : Type 0} (ss : List ℕ) (cells : List A) → length (rows_of ss cells) ≡ length ss
rows-count [] cells = refl
rows-count (s ∷ ss) cells = ap suc (rows-count ss (take s cells))

-- a row ends where the one above it begins, and the topmost one where the cells end
pub record IsRowAt {A : Type 0} (ss : List ℕ) (cells : List A) (d : ℕ) : Type 0 where
  pub ordered : at_depth (length cells) ss d ≤ at_depth (length cells) ss (suc d)
  pub within : at_depth (length cells) ss (suc d) ≤ length cells
  pub row :
      at_depth [] (rows_of ss cells) d ≡ drop (at_depth (length cells) ss d) (take (at_depth (length cells) ss (suc d)) cells)

pub row-at : {A : Type 0} (ss : List ℕ) (cells : List A) (d : ℕ) → AreNested ss cells → d < length ss
    → IsRowAt ss cells d
row-at [] cells d h lt = absurd (omega (arith, lt))
row-at {A = A} (s ∷ ss) cells d h lt = elim (eqb_tells (length ss) d) [
  | inl p ↦
      let first : at_depth (length cells) (s ∷ ss) d ≡ s = at-top (length cells) s ss d p.1 in
      let last : at_depth (length cells) (s ∷ ss) (suc d) ≡ length cells = at-past (length cells) (s ∷ ss) (suc d) (omega (arith, p.1)) in
      record {
        ordered = omega (arith, first, last, h.0);
        within = omega (arith, last);
        row = at-top [] (drop s cells) (rows_of ss (take s cells)) d (rows-count ss (take s cells) ∙ p.1)
            ∙ sym (ap (λ (n : ℕ). drop n (take (at_depth (length cells) (s ∷ ss) (suc d)) cells)) first ∙ ap (λ (n : ℕ). drop s (take n cells)) last ∙ ap (drop s) (take_all (length cells) cells (omega arith)));
      }
  | inr p ↦
      let less = below (length ss) d p.1 lt in lower (row-at ss (take s cells) d h.1 less) less p.1
]
  where
    below : (n d : ℕ) → (n ≡ d → ⊥) → d < suc n → d < n
    below n d apart lt = omega arith

    cut : length (take s cells) ≡ s
    cut = omega (arith, length-take s cells, h.0)

    same : (k : ℕ) → k ≤ length ss → at_depth (length cells) (s ∷ ss) k ≡ at_depth (length (take s cells)) ss k
    same k le = at-lower (length cells) s ss k le ∙ ap (λ (n : ℕ). at_depth n ss k) (sym cut)

    lower : IsRowAt ss (take s cells) d → d < length ss → (length ss ≡ d → ⊥) → IsRowAt (s ∷ ss) cells d
    lower rest lt apart =
        let b = same d (omega (arith, lt)) in
        let e = same (suc d) (omega (arith, lt)) in
        record {
          ordered = omega (arith, rest.ordered, b, e);
          within = omega (arith, rest.within, e, cut, h.0);
          row = at-other [] (drop s cells) (rows_of ss (take s cells)) d (λ q. apart (sym (rows-count ss (take s cells)) ∙ q))
              ∙ rest.row
              ∙ ap (drop (at_depth (length (take s cells)) ss d)) (take-take (at_depth (length (take s cells)) ss (suc d)) s cells (omega (arith, rest.within, cut)))
              ∙ ap (λ (n : ℕ). drop n (take (at_depth (length (take s cells)) ss (suc d)) cells)) (sym b)
              ∙ ap (λ (n : ℕ). drop (at_depth (length cells) (s ∷ ss) d) (take n cells)) (sym e);
        }

-- the cells of a row as they are cut out, by where the rows begin, of which the topmost one stands apart
pub record IsCut {A : Type 0} (rows : List (List A)) (cells : List A) (d b e : ℕ) : Type 0 where
  pub ordered : b ≤ e
  pub within : e ≤ length cells
  pub row : take (e - b) (drop b cells) ≡ at_depth [] rows d

pub row-cut : {A : Type 0} (top : ℕ) (below kept : List ℕ) (cells now : List A) (d len b e : ℕ)
    → AreNested (top ∷ reverse below) cells → d < length (rows_of (top ∷ reverse below) cells) → kept ≡ below → len ≡ length cells → now ≡ cells
    → b ≡ at_depth len (top ∷ reverse kept) d → e ≡ at_depth len (top ∷ reverse kept) (d + 1) → IsCut (rows_of (top ∷ reverse below) cells) now d b e
row-cut {A = A} top below kept cells now d len b e nested lt same size is begins ends =
    let ss : List ℕ = top ∷ reverse below in
    let h = row-at ss cells d nested (omega (arith, lt, rows-count ss cells)) in
    let next : d + 1 ≡ suc d = omega arith in
    let first : b ≡ at_depth (length cells) ss d = begins ∙ ap (λ (n : ℕ). at_depth n (top ∷ reverse kept) d) size ∙ ap (λ (xs : List ℕ). at_depth (length cells) (top ∷ reverse xs) d) same in
    let last : e ≡ at_depth (length cells) ss (suc d) = ends ∙ ap (λ (n : ℕ). at_depth n (top ∷ reverse kept) (d + 1)) size ∙ ap (λ (xs : List ℕ). at_depth (length cells) (top ∷ reverse xs) (d + 1)) same ∙ ap (at_depth (length cells) ss) next in
    let whole : b + (e - b) ≡ e = omega (arith, h.ordered, first, last) in
    record {
      ordered = omega (arith, h.ordered, first, last);
      within = omega (arith, h.within, last, ap length is);
      row = ap (λ (xs : List A). take (e - b) (drop b xs)) is ∙ sym (drop-take b (e - b) cells) ∙ ap (λ (n : ℕ). drop b (take n cells)) whole
          ∙ ap (λ (n : ℕ). drop n (take e cells)) first
          ∙ ap (λ (n : ℕ). drop (at_depth (length cells) ss d) (take n cells)) last ∙ sym h.row;
    }

-- ---- frames

-- the frame at a depth has the bindings and the collected ones at its depth
pub frame-at : (a : CodeFrame) (fs : List CodeFrame) (bs : List (List Bound)) (ks : List (List CodeCallee)) (d : ℕ)
    → length bs ≡ length fs → length ks ≡ length fs → d < length fs
    → frame_at (frames_from fs bs ks) d ≡ frame_of (at_depth a fs d) (at_depth [] bs d) (at_depth [] ks d)
frame-at a [] bs ks d eb ek lt = absurd (omega (arith, lt))
frame-at a (f ∷ fs) [] ks d eb ek lt = absurd (omega (arith, eb))
frame-at a (f ∷ fs) (b ∷ bs) [] d eb ek lt = absurd (omega (arith, ek))
frame-at a (f ∷ fs) (b ∷ bs) (k ∷ ks) d eb ek lt =
    let nb : length bs ≡ length fs = omega (arith, eb) in
    let nk : length ks ≡ length fs = omega (arith, ek) in
    let size = frames-size fs bs ks in
    elim (eqb_tells (length fs) d) [
      | inl p ↦
          at-top (top_frame []) (frame_of f b k) (frames_from fs bs ks) d (size ∙ p.1)
          ∙ sym (ap (λ (x : CodeFrame). frame_of x (at_depth [] (b ∷ bs) d) (at_depth [] (k ∷ ks) d)) (at-top a f fs d p.1)
          ∙ ap (λ (r : List Bound). frame_of f r (at_depth [] (k ∷ ks) d)) (at-top [] b bs d (nb ∙ p.1))
          ∙ ap (λ (r : List CodeCallee). frame_of f b r) (at-top [] k ks d (nk ∙ p.1)))
      | inr p ↦
          let apart : length fs ≡ d → ⊥ = p.1 in
          at-other (top_frame []) (frame_of f b k) (frames_from fs bs ks) d (λ e. apart (sym size ∙ e))
          ∙ frame-at a fs bs ks d nb nk (below (length fs) d apart lt)
          ∙ sym (ap (λ (x : CodeFrame). frame_of x (at_depth [] (b ∷ bs) d) (at_depth [] (k ∷ ks) d)) (at-other a f fs d apart)
          ∙ ap (λ (r : List Bound). frame_of (at_depth a fs d) r (at_depth [] (k ∷ ks) d)) (at-other [] b bs d (λ e. apart (sym nb ∙ e)))
          ∙ ap (λ (r : List CodeCallee). frame_of (at_depth a fs d) (at_depth [] bs d) r) (at-other [] k ks d (λ e. apart (sym nk ∙ e))))
    ]
  where
    below : (n d : ℕ) → (n ≡ d → ⊥) → d < suc n → d < n
    below n d apart lt = omega arith

pub is-frame-at : (x top : CodeFrame) (below : List CodeFrame) (bs : List (List Bound)) (ks : List (List CodeCallee))
    (d : ℕ)
    → length bs ≡ length (top ∷ reverse below) → length ks ≡ length (top ∷ reverse below) → d < length (frames_from (top ∷ reverse below) bs ks)
    → at_depth top (top ∷ reverse below) d ≡ x → IsFrameAt (frames_from (top ∷ reverse below) bs ks) d x
is-frame-at x top below bs ks d eb ek lt is =
    let fs : List CodeFrame = top ∷ reverse below in
    let whole : frame_at (frames_from fs bs ks) d ≡ frame_of x (at_depth [] bs d) (at_depth [] ks d) =
    frame-at top fs bs ks d eb ek (omega (arith, lt, frames-size fs bs ks)) ∙ ap (λ (y : CodeFrame). frame_of y (at_depth [] bs d) (at_depth [] ks d)) is in
    record {
      kind = sym (ap (λ (f : Frame). f.kind) whole);
      block = sym (ap (λ (f : Frame). f.block) whole);
      number = sym (ap (λ (f : Frame). f.number) whole);
    }
