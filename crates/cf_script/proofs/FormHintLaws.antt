-- A form at a place where one was found before.
use Rattle.std.proofs.Common.{◌≡◌, ℕ, zero, suc, ◌+◌, ◌<◌, Bool, true, false, cond, not, List, [], ◌∷◌, length, map, get_or, Option, Some, None, refl, ap, sym, ◌∙◌, arith}
use Rattle.std.specs.Prelude.{◌&&◌, ◌==◌}
use Rattle.std.specs.List.{list_any}
use Rattle.std.specs.Str.{bytes_eq}
use Rattle.std.proofs.lemmas.Bool.{and_parts, eqb-true, eq-eqb}
use Rattle.std.proofs.Math.ListN.{get_or-map}
use Rattle.std.proofs.lemmas.List.{length-map}
use Rattle.std.proofs.lemmas.List.Folds.{list_any_at}
use Rattle.cf_syntax.specs.FormTable.{FormWord}
use Rattle.cf_syntax.specs.FormStatements.{word_at}
use Rattle.cf_syntax.specs.FormWords.{begins, starts, has_count, is_kind, find_row}
use Rattle.cf_script.specs.TableViews.{form_word_of, may_meet, are_alike, are_apart}
use Rattle.cf_script.specs.declared.table.FormWord as Code
use Rattle.cf_script.proofs.HintLaws.{same_word}
use Rattle.cf_script.proofs.TableLaws.{IsOf}

kinds_meet : (j k : Option (List ℕ)) (word : List ℕ) → is_kind j word ≡ true → is_kind k word ≡ true
    → may_meet j k ≡ true
kinds_meet None k word e f = refl
kinds_meet (Some i) None word e f = refl
kinds_meet (Some i) (Some k) word e f = same_word word i k e f

all_true : (t u v : Bool) → t ≡ true → u ≡ true → v ≡ true → (t && (u && v)) ≡ true
all_true t u v a b c = rw (a, b) c

both_alike : (ws : List (List ℕ)) (r s : FormWord) → IsOf ws r ≡ true → IsOf ws s ≡ true → are_alike r s ≡ true
both_alike ws r s e f =
    let a = and_parts (begins r ws) (has_count r ws) e in
    let b = and_parts (begins s ws) (has_count s ws) f in
    let c = and_parts (starts r ws) (is_kind r.kind (word_at ws 2)) a.0 in
    let d = and_parts (starts s ws) (is_kind s.kind (word_at ws 2)) b.0 in
    let counts : length r.operands ≡ length s.operands = omega (arith, eqb-true (length ws) (1 + length r.operands) a.1, eqb-true (length ws) (1 + length s.operands) b.1) in
    all_true (bytes_eq r.word s.word) (may_meet r.kind s.kind) (length r.operands == length s.operands)
    (same_word (word_at ws 0) r.word s.word c.0 d.0) (kinds_meet r.kind s.kind (word_at ws 2) c.1 d.1) (eq-eqb (length r.operands) (length s.operands) counts)

-- it is the first that is found
found_hinted : (ws : List (List ℕ)) (rows : List FormWord) (i : ℕ) (d : FormWord) → are_apart rows ≡ true
    → i < length rows → IsOf ws (get_or rows i d) ≡ true → find_row (IsOf ws) rows ≡ Some (get_or rows i d)
found_hinted ws [] i d apart lt e = absurd (omega (arith, lt))
found_hinted ws (r ∷ rows) zero d apart lt e = rw e refl
found_hinted ws (r ∷ rows) (suc i) d apart lt e =
    let h = and_parts (not (list_any (are_alike r) rows)) (are_apart rows) apart in
    let within : i < length rows = omega (arith, lt) in
    tests (IsOf ws r) refl h.0 within (found_hinted ws rows i d h.1 within e)
  where
    no : (t : Bool) → t ≡ true → not t ≡ true → ⊥
    no true a b = absurd cc
    no false a b = absurd cc

    tests : (t : Bool) → IsOf ws r ≡ t → not (list_any (are_alike r) rows) ≡ true → i < length rows
        → find_row (IsOf ws) rows ≡ Some (get_or rows i d)
        → cond t (Some r) (find_row (IsOf ws) rows) ≡ Some (get_or rows i d)
    tests false at none within rest = rest
    tests true at none within rest =
        absurd (no (list_any (are_alike r) rows) (list_any_at (are_alike r) rows i d within (both_alike ws r (get_or rows i d) at e)) none)

-- a row of the code's table that the words of a line are of
pub row_hinted : (ws : List (List ℕ)) (rows : List Code.FormWord) (i : ℕ) (r : Code.FormWord)
    → are_apart (map form_word_of rows) ≡ true → i < length rows → r ≡ get_or rows i r
    → IsOf ws (form_word_of r) ≡ true → find_row (IsOf ws) (map form_word_of rows) ≡ Some (form_word_of r)
row_hinted ws rows i r apart lt at e =
    let here : get_or (map form_word_of rows) i (form_word_of r) ≡ form_word_of r = get_or-map form_word_of rows i r ∙ ap form_word_of (sym at) in
    let within : i < length (map form_word_of rows) = omega (arith, lt, length-map rows form_word_of) in
    found_hinted ws (map form_word_of rows) i (form_word_of r) apart within (ap (IsOf ws) here ∙ e) ∙ ap (λ (x : FormWord). Some x) here
