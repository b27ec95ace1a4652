-- What is found among rows, and among those after them.
use Rattle.std.proofs.Common.{◌≡◌, ℕ, ◌+◌, ◌≤◌, Bool, true, false, cond, List, [], ◌∷◌, length, Option, Some, None, Result, Ok, Err, refl, ap, sym, ◌∙◌, subst}
use Rattle.std.specs.Prelude.{◌&&◌, ◌||◌, nat_lt}
use Rattle.std.proofs.lemmas.Bool.{eqb-true}
use Rattle.std.proofs.lemmas.List.{length-map}
use Rattle.std.specs.List.{list_any}
use Rattle.cf_syntax.specs.declared.refusal.Reason.{Reason}
use Rattle.cf_syntax.specs.declared.refusal.Reason.TheVariants.{Word, Kind, Arity}
use Rattle.cf_syntax.specs.FormTable.{FormWord, forms_now}
use Rattle.cf_syntax.specs.FormStatements.{word_at}
use Rattle.cf_syntax.specs.FormWords.{◌>>=◌, require, needed, starts, begins, has_count, is_kind, find_row, form_of}
use Rattle.cf_syntax.proofs.RefusalLaws.{bind_ok}
use Rattle.cf_script.specs.Views.{lent}
use Rattle.cf_script.specs.TableViews.{form_word_of, found_row}
use Rattle.cf_script.specs.declared.table.FormWord as Code
use Rattle.cf_script.proofs.NameLaws.{not_below}
use denote.Ref.{Bor}

abbrev pub IsOf : List (List ℕ) → FormWord → Bool
IsOf ws r = begins r ws && has_count r ws

-- words that are of a form begin one
pub found_starts : (ws : List (List ℕ)) (rows : List FormWord) (r : FormWord) → find_row (IsOf ws) rows ≡ Some r
    → list_any (λ x. starts x ws) rows ≡ true
found_starts ws [] r e = absurd cc
found_starts ws (x ∷ rows) r e = tests (starts x ws) (is_kind x.kind (word_at ws 2)) (has_count x ws) e (found_starts ws rows r)
  where
    tests : (t u v : Bool) → cond ((t && u) && v) (Some x) (find_row (IsOf ws) rows) ≡ Some r
        → (find_row (IsOf ws) rows ≡ Some r → list_any (λ y. starts y ws) rows ≡ true)
        → (t || list_any (λ y. starts y ws) rows) ≡ true
    tests true u v e rest = refl
    tests false u v e rest = rest e

pub found_begins : (ws : List (List ℕ)) (rows : List FormWord) (r : FormWord) → find_row (IsOf ws) rows ≡ Some r
    → list_any (λ x. begins x ws) rows ≡ true
found_begins ws [] r e = absurd cc
found_begins ws (x ∷ rows) r e = tests (begins x ws) (has_count x ws) e (found_begins ws rows r)
  where
    tests : (t v : Bool) → cond (t && v) (Some x) (find_row (IsOf ws) rows) ≡ Some r
        → (find_row (IsOf ws) rows ≡ Some r → list_any (λ y. begins y ws) rows ≡ true)
        → (t || list_any (λ y. begins y ws) rows) ≡ true
    tests true v e rest = refl
    tests false v e rest = rest e

-- the form of a line among some rows
abbrev form_in : List FormWord → List (List ℕ) → Result FormWord Reason
form_in rows ws =
    require Word (list_any (λ r. starts r ws) rows)
    >>= (λ _. require Kind (nat_lt (length ws) 3 || list_any (λ r. begins r ws) rows)
    >>= (λ _. needed Arity (find_row (IsOf ws) rows)))

tested : (t u v : Bool) (o : Option FormWord) (r : FormWord) → t ≡ true → u ≡ true → o ≡ Some r
    → (require Word t >>= (λ _. require Kind (v || u) >>= (λ _. needed Arity o))) ≡ Ok r
tested t u true o r a b e = rw (a, e) refl
tested t u false o r a b e = rw (a, b, e) refl

found_in : (ws : List (List ℕ)) (rows : List FormWord) (r : FormWord) → find_row (IsOf ws) rows ≡ Some r
    → form_in rows ws ≡ Ok r
found_in ws rows r e =
    tested (list_any (λ x. starts x ws) rows) (list_any (λ x. begins x ws) rows) (nat_lt (length ws) 3) (find_row (IsOf ws) rows) r
    (found_starts ws rows r e) (found_begins ws rows r e) e

-- a row that is found is the form of the line
pub form_found : (ws : List (List ℕ)) (r : FormWord) → find_row (IsOf ws) forms_now ≡ Some r → form_of ws ≡ Ok r
unfolding form_of
form_found ws r e = found_in ws forms_now r e

-- and what is wanting where none is found
no_word : (t u : Bool) (o : Option FormWord) → t ≡ false
    → (require Word t >>= (λ _. require Kind u >>= (λ _. needed Arity o))) ≡ Err Word
no_word t u o a = rw a refl

no_kind : (t u : Bool) (o : Option FormWord) → t ≡ true → u ≡ false
    → (require Word t >>= (λ _. require Kind u >>= (λ _. needed Arity o))) ≡ Err Kind
no_kind t u o a b = rw (a, b) refl

no_count : (t u : Bool) (o : Option FormWord) → t ≡ true → u ≡ true → o ≡ None
    → (require Word t >>= (λ _. require Kind u >>= (λ _. needed Arity o))) ≡ Err Arity
no_count t u o a b e = rw (a, b, e) refl

pub form_of_no_word : (ws : List (List ℕ)) → list_any (λ r. starts r ws) forms_now ≡ false → form_of ws ≡ Err Word
unfolding form_of
form_of_no_word ws a = no_word (list_any (λ (r : FormWord). starts r ws) forms_now) (nat_lt (length ws) 3 || list_any (λ (r : FormWord). begins r ws) forms_now) (find_row (IsOf ws) forms_now) a

pub form_of_no_kind : (ws : List (List ℕ)) → list_any (λ r. starts r ws) forms_now ≡ true
    → (nat_lt (length ws) 3 || list_any (λ r. begins r ws) forms_now) ≡ false
    → form_of ws ≡ Err Kind
unfolding form_of
form_of_no_kind ws a b = no_kind (list_any (λ (r : FormWord). starts r ws) forms_now) (nat_lt (length ws) 3 || list_any (λ (r : FormWord). begins r ws) forms_now) (find_row (IsOf ws) forms_now) a b

pub form_of_no_count : (ws : List (List ℕ)) → list_any (λ r. starts r ws) forms_now ≡ true
    → (nat_lt (length ws) 3 || list_any (λ r. begins r ws) forms_now) ≡ true → find_row (IsOf ws) forms_now ≡ None
    → form_of ws ≡ Err Arity
unfolding form_of
form_of_no_count ws a b e = no_count (list_any (λ (r : FormWord). starts r ws) forms_now) (nat_lt (length ws) 3 || list_any (λ (r : FormWord). begins r ws) forms_now) (find_row (IsOf ws) forms_now) a b e

-- words that are of a form are as many as the form's
pub row_count : (ws : List (List ℕ)) (rows : List FormWord) (r : FormWord) → find_row (IsOf ws) rows ≡ Some r
    → has_count r ws ≡ true
row_count ws [] r e = absurd cc
row_count ws (x ∷ rows) r e = tests (begins x ws) (has_count x ws) refl e (row_count ws rows r)
  where
    tests : (t v : Bool) → has_count x ws ≡ v → cond (t && v) (Some x) (find_row (IsOf ws) rows) ≡ Some r
        → (find_row (IsOf ws) rows ≡ Some r → has_count r ws ≡ true) → has_count r ws ≡ true
    tests true true at e rest = let same : x ≡ r = cc in subst (λ (y : FormWord). has_count y ws ≡ true) same at
    tests true false at e rest = rest e
    tests false v at e rest = rest e

needed_row : (o : Option FormWord) (r : FormWord) → needed Arity o ≡ Ok r → o ≡ Some r
needed_row None r e = absurd cc
needed_row (Some x) r e = cc

-- the form of a line is a row
pub form_row : (ws : List (List ℕ)) (r : FormWord) → form_of ws ≡ Ok r → find_row (IsOf ws) forms_now ≡ Some r
unfolding form_of
form_row ws r e =
    let a = bind_ok (require Word (list_any (λ (x : FormWord). starts x ws) forms_now)) _ r e in
    let b = bind_ok (require Kind (nat_lt (length ws) 3 || list_any (λ (x : FormWord). begins x ws) forms_now)) _ r a.2 in
    needed_row (find_row (IsOf ws) forms_now) r b.2

-- the words of a line are one more than the operands of its form
pub words_count : (ws : List (Bor (List ℕ))) (found : Result (Bor Code.FormWord) Reason) (r : Bor Code.FormWord)
    → found_row found ≡ form_of (lent ws) → found ≡ Ok r
    → length ws ≡ 1 + length r.now.operands.now
words_count ws found r e is =
    let count = row_count (lent ws) forms_now (form_word_of r.now) (form_row (lent ws) (form_word_of r.now) (sym e ∙ ap found_row is)) in
    sym (length-map ws (λ (w : Bor (List ℕ)). w.now)) ∙ eqb-true (length (lent ws)) (1 + length r.now.operands.now) count

-- a line of three words or more has its kind where its words begin a form
pub long_enough : (ws : List (Bor (List ℕ))) (t u : Bool) → 3 ≤ length ws → t ≡ u
    → t ≡ (nat_lt (length (lent ws)) 3 || u)
long_enough ws t u le e = rw (length-map ws (λ (w : Bor (List ℕ)). w.now), not_below (length ws) 3 le) e
