-- Objects of which one is changed.
use Rattle.std.proofs.Common.{◌≡◌, ℕ, zero, suc, ◌<◌, ◌≤◌, List, [], ◌∷◌, length, get_or, refl, sym, ap, ◌∙◌, arith}
use Rattle.std.specs.Prelude.{slice_set}
use Rattle.cf_contents.specs.Contents.{Object}
use Rattle.cf_contents.specs.Deeds.{Change, object_after, with_change}

-- the object is there
pub changed-at : (o : ℕ) (change : Change) (objects : List Object) (old new : Object) → o < length objects
    → old ≡ get_or objects o old → new ≡ object_after change old
    → slice_set objects o new ≡ with_change o change objects
changed-at o change [] old new lt is made = absurd (omega arith)
changed-at zero change (x ∷ xs) old new lt is made = ap (λ y. y ∷ xs) (made ∙ ap (object_after change) is)
changed-at (suc o) change (x ∷ xs) old new lt is made =
    ap (λ ys. x ∷ ys) (changed-at o change xs old new (omega arith) is made)

-- it is not
pub changed-past : (o : ℕ) (change : Change) (objects : List Object) → length objects ≤ o
    → objects ≡ with_change o change objects
changed-past o change [] le = refl
changed-past zero change (x ∷ xs) le = absurd (omega arith)
changed-past (suc o) change (x ∷ xs) le = ap (λ ys. x ∷ ys) (changed-past o change xs (omega arith))
