-- The first line of a text, and the lines after it.
use Rattle.std.proofs.Common.{◌≡◌, ℕ, suc, ◌+◌, ◌<◌, ◌≤◌, Bool, true, false, cond, not, eqb, List, [], ◌∷◌, length, take, drop, map, Some, None, refl, ap, arith, ltb, add-one, subst}
use Rattle.std.specs.Prelude.{position}
use Rattle.std.specs.List.{position_or_len}
use Rattle.std.proofs.lemmas.Bool.{ltb-true, ltb-false}
use Rattle.cf_syntax.specs.Lines.{in_first, pieces, without_return, lines}

abbrev pub feed : List ℕ → ℕ
feed bs = position_or_len (λ b. eqb b 10) bs

piece_step : (t : Bool) (b n : ℕ) (bs : List ℕ) → (n < length bs → pieces bs ≡ take n bs ∷ pieces (drop (suc n) bs))
    → cond (not t) (1 + n) 0 < suc (length bs)
    → cond t ([] ∷ pieces bs) (in_first b (pieces bs))
    ≡ take (cond (not t) (1 + n) 0) (b ∷ bs) ∷ pieces (drop (suc (cond (not t) (1 + n) 0)) (b ∷ bs))
piece_step true b n bs ih lt = refl
piece_step false b n bs ih lt = rw (ih (omega arith)) (let e : 1 + n ≡ suc n = omega arith in rw e refl)

-- a piece goes to the first LF
pub pieces_at_feed : (bs : List ℕ) → feed bs < length bs
    → pieces bs ≡ take (feed bs) bs ∷ pieces (drop (suc (feed bs)) bs)
pieces_at_feed [] lt = absurd (omega arith)
pieces_at_feed (b ∷ bs) lt = piece_step (eqb b 10) b (feed bs) bs (pieces_at_feed bs) lt

last_step : (t : Bool) (b c n : ℕ) (bs : List ℕ) → (length (c ∷ bs) ≤ n → pieces (c ∷ bs) ≡ (c ∷ bs) ∷ [])
    → suc (length (c ∷ bs)) ≤ cond (not t) (1 + n) 0
    → cond t ([] ∷ pieces (c ∷ bs)) (in_first b (pieces (c ∷ bs))) ≡ (b ∷ c ∷ bs) ∷ []
last_step true b c n bs ih le = absurd (omega arith)
last_step false b c n bs ih le = rw (ih (omega arith)) refl

only_step : (t : Bool) (b : ℕ) → 1 ≤ cond (not t) 1 0 → cond t ([] ∷ []) ((b ∷ []) ∷ []) ≡ (b ∷ []) ∷ []
only_step true b le = absurd (omega arith)
only_step false b le = refl

-- where there is no LF, the bytes are the one piece
pub pieces_without_feed : (b : ℕ) (bs : List ℕ) → length (b ∷ bs) ≤ feed (b ∷ bs) → pieces (b ∷ bs) ≡ (b ∷ bs) ∷ []
pieces_without_feed b [] le = only_step (eqb b 10) b le
pieces_without_feed b (c ∷ bs) le = last_step (eqb b 10) b c (feed (c ∷ bs)) bs (pieces_without_feed c bs) le

found_at : (t : Bool) (n i : ℕ) → cond t (Some n) None ≡ Some i → (t ≡ true) × (n ≡ i)
found_at true n i e = (refl, cc)
found_at false n i e = absurd cc

found_nowhere : (t : Bool) (n : ℕ) → cond t (Some n) None ≡ None → t ≡ false
found_nowhere true n e = absurd cc
found_nowhere false n e = refl

-- the first line, where `position` finds its LF
pub lines_at_feed : (bs : List ℕ) (i : ℕ) → position (λ b. eqb b 10) bs ≡ Some i
    → lines bs ≡ without_return (take i bs) ∷ lines (drop (i + 1) bs)
lines_at_feed bs i e =
    let at = found_at (ltb (feed bs) (length bs)) (feed bs) i e in
    let split : pieces bs ≡ take i bs ∷ pieces (drop (suc i) bs) =
    subst (λ (k : ℕ). pieces bs ≡ take k bs ∷ pieces (drop (suc k) bs)) at.1
    (pieces_at_feed bs (ltb-true (feed bs) (length bs) at.0)) in
    rw add-one (ap (map without_return) split)

-- and where there is none
pub lines_without_feed : (bs : List ℕ) → 0 < length bs → position (λ b. eqb b 10) bs ≡ None
    → lines bs ≡ without_return bs ∷ []
lines_without_feed [] some e = absurd (omega arith)
lines_without_feed (b ∷ bs) some e =
    let no = found_nowhere (ltb (feed (b ∷ bs)) (length (b ∷ bs))) (feed (b ∷ bs)) e in
    rw (pieces_without_feed b bs (ltb-false (feed (b ∷ bs)) (length (b ∷ bs)) no)) refl
