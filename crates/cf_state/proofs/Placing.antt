-- Stands of threads by number.
use Rattle.std.proofs.Common.{◌≡◌, ℕ, zero, suc, ◌+◌, ◌<◌, ◌≤◌, List, [], ◌∷◌, ◌++◌, length, map, get_or, Option, Some, None, refl, sym, ap, ◌∙◌, arith}
use Rattle.std.specs.Prelude.{slice_set, MatchOption}
use Rattle.std.specs.Slice.{IsItemAt}
use denote.Ref.{Bor}
use Rattle.cf_next.specs.Standing.{Standing}
use Rattle.cf_next.specs.Stands.{Stand}
use Rattle.cf_model.specs.State.{blank, stand_at, with_stand}
use Rattle.cf_state.specs.Placed.{IsPlaced, stands_of}

-- a thread that is not there has no frame
stand-none : (k : ℕ) (fs : List Standing) → length fs ≤ k → stand_at k (stands_of fs) ≡ blank
stand-none k [] le = refl
stand-none zero (f ∷ fs) le = absurd (omega arith)
stand-none (suc k) (f ∷ fs) le = stand-none k fs (omega arith)

-- where a thread that is there stands
pub stand-there : (k : ℕ) (fs : List Standing) (f : Standing) → k < length fs → f ≡ get_or fs k f
    → f.stand ≡ stand_at k (stands_of fs)
stand-there k [] f lt is = absurd (omega arith)
stand-there zero (g ∷ fs) f lt is = ap (λ (x : Standing). x.stand) is
stand-there (suc k) (g ∷ fs) f lt is = stand-there k fs f (omega arith) is

-- and which one it is
thread-from : (n k : ℕ) (fs : List Standing) (f : Standing) → IsPlaced n fs → k < length fs → f ≡ get_or fs k f
    → f.thread ≡ n + k
thread-from n k [] f h lt is = absurd (omega arith)
thread-from n zero (g ∷ fs) f h lt is =
    let e : n ≡ n + 0 = omega arith in ap (λ (x : Standing). x.thread) is ∙ h.0 ∙ e
thread-from n (suc k) (g ∷ fs) f h lt is =
    let e : (n + 1) + k ≡ n + suc k = omega arith in thread-from (n + 1) k fs f h.1 (omega arith) is ∙ e

pub thread-there : (k : ℕ) (fs : List Standing) (f : Standing) → IsPlaced 0 fs → k < length fs → f ≡ get_or fs k f
    → f.thread ≡ k
thread-there k fs f h lt is = let e : 0 + k ≡ k = omega arith in thread-from 0 k fs f h lt is ∙ e

-- what is found at a number
pub got : (k : ℕ) (fs : List Standing) (r : Option (Bor Standing)) → IsPlaced 0 fs → IsItemAt fs k r
    → MatchOption r (stand_at k (stands_of fs) ≡ blank)
    (λ f. (f.now.thread ≡ k) × (f.now.stand ≡ stand_at k (stands_of fs)))
got k fs None h item = stand-none k fs item.3
got k fs (Some x) h item =
    let is : x.now ≡ get_or fs k x.now = item.3.1 x.now in
    (thread-there k fs x.now h item.3.0 is, stand-there k fs x.now item.3.0 is)

-- ---- one that moves on

placed-from : (n k : ℕ) (fs : List Standing) (g : Standing) → k < length fs → g.thread ≡ n + k → IsPlaced n fs
    → IsPlaced n (slice_set fs k g)
placed-from n k [] g lt is h = absurd (omega arith)
placed-from n zero (f ∷ fs) g lt is h = let e : n + 0 ≡ n = omega arith in (is ∙ e, h.1)
placed-from n (suc k) (f ∷ fs) g lt is h =
    let e : n + suc k ≡ (n + 1) + k = omega arith in (h.0, placed-from (n + 1) k fs g (omega arith) (is ∙ e) h.1)

pub placed-set : (k : ℕ) (fs : List Standing) (old new : Standing) → k < length fs → old ≡ get_or fs k old
    → new.thread ≡ old.thread → IsPlaced 0 fs → IsPlaced 0 (slice_set fs k new)
placed-set k fs old new lt is same h =
    let e : k ≡ 0 + k = omega arith in placed-from 0 k fs new lt (same ∙ thread-there k fs old h lt is ∙ e) h

stands-with : (k : ℕ) (fs : List Standing) (g : Standing) → k < length fs
    → stands_of (slice_set fs k g) ≡ with_stand k g.stand (stands_of fs)
stands-with k [] g lt = absurd (omega arith)
stands-with zero (f ∷ fs) g lt = refl
stands-with (suc k) (f ∷ fs) g lt = ap (λ ss. f.stand ∷ ss) (stands-with k fs g (omega arith))

-- the stands after it
pub stands-set : (k : ℕ) (fs : List Standing) (new : Standing) (stand : Stand) → k < length fs → new.stand ≡ stand
    → stands_of (slice_set fs k new) ≡ with_stand k stand (stands_of fs)
stands-set k fs new stand lt is = stands-with k fs new lt ∙ ap (λ s. with_stand k s (stands_of fs)) is

pub stands-long : (fs : List Standing) → length (stands_of fs) ≡ length fs
stands-long [] = refl
stands-long (f ∷ fs) = ap suc (stands-long fs)

-- ---- one more

placed-more : (n : ℕ) (fs : List Standing) (f : Standing) → IsPlaced n fs → f.thread ≡ n + length fs
    → IsPlaced n (fs ++ f ∷ [])
placed-more n [] f h is = let e : n + 0 ≡ n = omega arith in (is ∙ e, tt)
placed-more n (g ∷ fs) f h is =
    let e : n + suc (length fs) ≡ (n + 1) + length fs = omega arith in (h.0, placed-more (n + 1) fs f h.1 (is ∙ e))

pub placed-push : (fs : List Standing) (f : Standing) (t : ℕ) → IsPlaced 0 fs → f.thread ≡ t → length fs ≡ t
    → IsPlaced 0 (fs ++ f ∷ [])
placed-push fs f t h is long = let e : t ≡ 0 + length fs = omega arith in placed-more 0 fs f h (is ∙ e)

pub stands-push : (fs : List Standing) (f : Standing) → stands_of (fs ++ f ∷ []) ≡ stands_of fs ++ f.stand ∷ []
stands-push [] f = refl
stands-push (g ∷ fs) f = ap (λ ss. g.stand ∷ ss) (stands-push fs f)
