-- The statement of a line whose variables are known.
use Rattle.std.proofs.Common.{◌≡◌, ℕ, ◌+◌, Bool, true, false, cond, List, [], ◌∷◌, length, drop, Option, Some, None, Result, Ok, refl, ap, sym, ◌∙◌, subst, arith}
use Rattle.std.specs.Prelude.{unwrap_or, IfSome}
use Rattle.std.proofs.lemmas.Bool.{eqb-true}
use Rattle.cf_syntax.specs.declared.script.ClassLine.{ClassLine}
use Rattle.cf_syntax.specs.declared.form.StatementForm.{StatementForm}
use Rattle.cf_syntax.specs.declared.form.Operand.{Operand}
use Rattle.cf_syntax.specs.declared.statement.Statement.{Statement}
use Rattle.cf_syntax.specs.declared.refusal.Reason.{Reason}
use Rattle.cf_syntax.specs.FormTable.{FormWord, forms_now}
use Rattle.cf_syntax.specs.FormStatements.{Numbers, word_at, index_at, statement_by}
use Rattle.cf_syntax.specs.FormWords.{find_row, form_of, Names, With}
use Rattle.cf_syntax.specs.Numbers.{index_of}
use Rattle.cf_script.specs.Shapes.{Shape, one, two, three, at, put, span, shape_of, operands_by, made_by, by_one, by_two, by_three, by_at, by_put, by_span, IsKnown, Reads}
use Rattle.cf_script.proofs.TableLaws.{IsOf, form_row, row_count}

-- the rows of the table have the shapes of their forms
record IsShaped (r : FormWord) (x : Shape) : Type 0 where
  operands : r.operands ≡ operands_by x
  says : (classes : List ClassLine) (threads : List (List ℕ)) (ns : Numbers) (ws : List (List ℕ))
      → statement_by classes threads r.form ns ws ≡ Ok (made_by x ns ws)

abbrev Shaped : FormWord → Type 0
Shaped r = (x : Shape) → shape_of r.form ≡ Some x → IsShaped r x

abbrev AllShaped : List FormWord → Type 0
AllShaped [] = Unit {0}
AllShaped (r ∷ rows) = Shaped r × AllShaped rows

some_same : (x y : Shape) → Some x ≡ Some y → x ≡ y
some_same x y e = cc

shaped : (r : FormWord) (x y : Shape) → (r.operands ≡ operands_by x)
    → ((classes : List ClassLine) (threads : List (List ℕ)) (ns : Numbers) (ws : List (List ℕ))
    → statement_by classes threads r.form ns ws ≡ Ok (made_by x ns ws))
    → Some x ≡ Some y → IsShaped r y
shaped r x y os s e = subst (IsShaped r) (some_same x y e) (record { operands = os; says = s })

all_shaped : AllShaped forms_now
all_shaped = (λ x e. shaped _ _ x refl (λ c t n w. refl) e, (λ x e. shaped _ _ x refl (λ c t n w. refl) e, (λ x e. shaped _ _ x refl (λ c t n w. refl) e, (λ x e. absurd cc, (λ x e. absurd cc, (λ x e. absurd cc, (λ x e. absurd cc, (λ x e. absurd cc, (λ x e. absurd cc, (λ x e. absurd cc, (λ x e. absurd cc, (λ x e. absurd cc, (λ x e. absurd cc, (λ x e. absurd cc, (λ x e. absurd cc, (λ x e. absurd cc, (λ x e. absurd cc, (λ x e. absurd cc, (λ x e. absurd cc, (λ x e. absurd cc, (λ x e. shaped _ _ x refl (λ c t n w. refl) e, (λ x e. absurd cc, (λ x e. shaped _ _ x refl (λ c t n w. refl) e, (λ x e. absurd cc, (λ x e. absurd cc, (λ x e. absurd cc, (λ x e. absurd cc, (λ x e. shaped _ _ x refl (λ c t n w. refl) e, (λ x e. absurd cc, (λ x e. shaped _ _ x refl (λ c t n w. refl) e, (λ x e. shaped _ _ x refl (λ c t n w. refl) e, (λ x e. shaped _ _ x refl (λ c t n w. refl) e, (λ x e. shaped _ _ x refl (λ c t n w. refl) e, (λ x e. absurd cc, (λ x e. shaped _ _ x refl (λ c t n w. refl) e, (λ x e. shaped _ _ x refl (λ c t n w. refl) e, (λ x e. shaped _ _ x refl (λ c t n w. refl) e, (λ x e. shaped _ _ x refl (λ c t n w. refl) e, (λ x e. absurd cc, (λ x e. shaped _ _ x refl (λ c t n w. refl) e, (λ x e. shaped _ _ x refl (λ c t n w. refl) e, (λ x e. shaped _ _ x refl (λ c t n w. refl) e, (λ x e. shaped _ _ x refl (λ c t n w. refl) e, (λ x e. shaped _ _ x refl (λ c t n w. refl) e, (λ x e. absurd cc, (λ x e. shaped _ _ x refl (λ c t n w. refl) e, (λ x e. absurd cc, (λ x e. shaped _ _ x refl (λ c t n w. refl) e, (λ x e. shaped _ _ x refl (λ c t n w. refl) e, (λ x e. shaped _ _ x refl (λ c t n w. refl) e, (λ x e. absurd cc, (λ x e. absurd cc, (λ x e. absurd cc, (λ x e. absurd cc, (λ x e. absurd cc, (λ x e. absurd cc, (λ x e. absurd cc, (λ x e. absurd cc, (λ x e. absurd cc, (λ x e. absurd cc, tt))))))))))))))))))))))))))))))))))))))))))))))))))))))))))))

found_shaped : (test : FormWord → Bool) (rows : List FormWord) (r : FormWord) → AllShaped rows
    → find_row test rows ≡ Some r → Shaped r
found_shaped test [] r all e = absurd cc
found_shaped test (x ∷ rows) r all e = tests (test x) e (found_shaped test rows r all.1)
  where
    tests : (t : Bool) → cond t (Some x) (find_row test rows) ≡ Some r → (find_row test rows ≡ Some r → Shaped r)
        → Shaped r
    tests true e rest = let same : x ≡ r = cc in subst Shaped same all.0
    tests false e rest = rest e

row_shaped : (ws : List (List ℕ)) (r : FormWord) (x : Shape) → form_of ws ≡ Ok r → shape_of r.form ≡ Some x
    → IsShaped r x
row_shaped ws r x e s = found_shaped (IsOf ws) forms_now r all_shaped (form_row ws r e) x s

row_words : (ws : List (List ℕ)) (r : FormWord) (x : Shape) → form_of ws ≡ Ok r → r.operands ≡ operands_by x
    → length ws ≡ 1 + length (operands_by x)
row_words ws r x e os =
    eqb-true (length ws) (1 + length r.operands) (row_count ws forms_now r (form_row ws r e)) ∙ ap (λ (o : List Operand). 1 + length o) os

two_words : (ws : List (List ℕ)) → length ws ≡ 2 → drop 1 ws ≡ word_at ws 1 ∷ []
two_words [] e = absurd (omega (arith, e))
two_words (v ∷ []) e = absurd (omega (arith, e))
two_words (v ∷ w ∷ []) e = refl
two_words (v ∷ w ∷ x ∷ ws) e = absurd (omega (arith, e))

three_words : (ws : List (List ℕ)) → length ws ≡ 3 → drop 1 ws ≡ word_at ws 1 ∷ word_at ws 2 ∷ []
three_words [] e = absurd (omega (arith, e))
three_words (v ∷ ws) e = rest ws (omega (arith, e))
  where
    rest : (ws : List (List ℕ)) → length ws ≡ 2 → ws ≡ word_at ws 0 ∷ word_at ws 1 ∷ []
    rest [] e = absurd (omega (arith, e))
    rest (v ∷ []) e = absurd (omega (arith, e))
    rest (v ∷ w ∷ []) e = refl
    rest (v ∷ w ∷ x ∷ ws) e = absurd (omega (arith, e))

four_words : (ws : List (List ℕ)) → length ws ≡ 4 → drop 1 ws ≡ word_at ws 1 ∷ word_at ws 2 ∷ word_at ws 3 ∷ []
four_words [] e = absurd (omega (arith, e))
four_words (u ∷ []) e = absurd (omega (arith, e))
four_words (u ∷ v ∷ ws) e = ap (λ (l : List (List ℕ)). v ∷ l) (rest ws (omega (arith, e)))
  where
    rest : (ws : List (List ℕ)) → length ws ≡ 2 → ws ≡ word_at ws 0 ∷ word_at ws 1 ∷ []
    rest [] e = absurd (omega (arith, e))
    rest (v ∷ []) e = absurd (omega (arith, e))
    rest (v ∷ w ∷ []) e = refl
    rest (v ∷ w ∷ x ∷ ws) e = absurd (omega (arith, e))

-- a statement of a shape of its own is of that shape
one_of : (o : Option Shape) (v : ℕ) (s : Statement) → by_one o v ≡ Some s
    → (f : ℕ → Statement) × (o ≡ Some (one f)) × (f v ≡ s)
one_of (Some (one f)) v s e = (f, refl, cc)
one_of _ v s e = absurd cc

two_of : (o : Option Shape) (v w : ℕ) (s : Statement) → by_two o v w ≡ Some s
    → (f : ℕ → ℕ → Statement) × (o ≡ Some (two f)) × (f v w ≡ s)
two_of (Some (two f)) v w s e = (f, refl, cc)
two_of _ v w s e = absurd cc

three_of : (o : Option Shape) (v w x : ℕ) (s : Statement) → by_three o v w x ≡ Some s
    → (f : ℕ → ℕ → ℕ → Statement) × (o ≡ Some (three f)) × (f v w x ≡ s)
three_of (Some (three f)) v w x s e = (f, refl, cc)
three_of _ v w x s e = absurd cc

at_of : (o : Option Shape) (v i : ℕ) (s : Statement) → by_at o v i ≡ Some s
    → (f : ℕ → ℕ → Statement) × (o ≡ Some (at f)) × (f v i ≡ s)
at_of (Some (at f)) v i s e = (f, refl, cc)
at_of _ v i s e = absurd cc

put_of : (o : Option Shape) (v i w : ℕ) (s : Statement) → by_put o v i w ≡ Some s
    → (f : ℕ → ℕ → ℕ → Statement) × (o ≡ Some (put f)) × (f v i w ≡ s)
put_of (Some (put f)) v i w s e = (f, refl, cc)
put_of _ v i w s e = absurd cc

span_of : (o : Option Shape) (v i n : ℕ) (s : Statement) → by_span o v i n ≡ Some s
    → (f : ℕ → ℕ → ℕ → Statement) × (o ≡ Some (span f)) × (f v i n ≡ s)
span_of (Some (span f)) v i n s e = (f, refl, cc)
span_of _ v i n s e = absurd cc

-- the number of an INDEX at a place
index_there : (ws : List (List ℕ)) (k : ℕ) (word : List ℕ) (i : ℕ) → word ≡ word_at ws k → Some i ≡ index_of word
    → index_at ws k ≡ i
index_there ws k word i a e =
    ap (λ (w : List ℕ). unwrap_or (index_of w) 0) (sym a) ∙ ap (λ (o : Option ℕ). unwrap_or o 0) (sym e)

abbrev read_as : Names → Statement → Result (With Statement) Reason
read_as names s = Ok (record { names = names; value = s })

-- so the words of a line are that statement
pub one_reads : (h : Bool) (names : Names) (form : StatementForm) (ws : List (List ℕ)) (w1 : List ℕ) (v : ℕ)
    → w1 ≡ word_at ws 1 → IsKnown h names w1 v
    → (s : Statement) → by_one (shape_of form) v ≡ Some s → Reads h names form ws s
one_reads h names form ws w1 v a k s e = λ classes threads r found is.
    let o = one_of (shape_of form) v s e in
    let row = row_shaped ws r (one o.0) found (ap shape_of is ∙ o.1) in
    rw (row.operands, two_words ws (row_words ws r (one o.0) found row.operands), ← a, k.used, k.known, row.says)
    (ap (read_as names) o.2)

pub two_reads : (h : Bool) (names : Names) (form : StatementForm) (ws : List (List ℕ)) (w1 w2 : List ℕ) (v w : ℕ)
    → w1 ≡ word_at ws 1 → w2 ≡ word_at ws 2 → IsKnown h names w1 v → IsKnown h names w2 w
    → (s : Statement) → by_two (shape_of form) v w ≡ Some s → Reads h names form ws s
two_reads h names form ws w1 w2 v w a b k l s e = λ classes threads r found is.
    let o = two_of (shape_of form) v w s e in
    let row = row_shaped ws r (two o.0) found (ap shape_of is ∙ o.1) in
    rw (row.operands, three_words ws (row_words ws r (two o.0) found row.operands), ← a, ← b, k.used, l.used, k.known, l.known, row.says)
    (ap (read_as names) o.2)

pub three_reads : (h : Bool) (names : Names) (form : StatementForm) (ws : List (List ℕ)) (w1 w2 w3 : List ℕ) (v w x : ℕ)
    → w1 ≡ word_at ws 1 → w2 ≡ word_at ws 2 → w3 ≡ word_at ws 3
    → IsKnown h names w1 v → IsKnown h names w2 w → IsKnown h names w3 x
    → (s : Statement) → by_three (shape_of form) v w x ≡ Some s → Reads h names form ws s
three_reads h names form ws w1 w2 w3 v w x a b d k l m s e = λ classes threads r found is.
    let o = three_of (shape_of form) v w x s e in
    let row = row_shaped ws r (three o.0) found (ap shape_of is ∙ o.1) in
    rw (row.operands, four_words ws (row_words ws r (three o.0) found row.operands), ← a, ← b, ← d, k.used, l.used, m.used, k.known, l.known, m.known, row.says)
    (ap (read_as names) o.2)

pub at_reads : (h : Bool) (names : Names) (form : StatementForm) (ws : List (List ℕ)) (w1 w2 : List ℕ) (v i : ℕ)
    → w1 ≡ word_at ws 1 → w2 ≡ word_at ws 2 → IsKnown h names w1 v → Some i ≡ index_of w2
    → (s : Statement) → by_at (shape_of form) v i ≡ Some s → Reads h names form ws s
at_reads h names form ws w1 w2 v i a b k l s e = λ classes threads r found is.
    let o = at_of (shape_of form) v i s e in
    let row = row_shaped ws r (at o.0) found (ap shape_of is ∙ o.1) in
    rw (row.operands, three_words ws (row_words ws r (at o.0) found row.operands), ← a, ← b, k.used, ← l, k.known, row.says)
    (ap (λ (n : ℕ). read_as names (o.0 v n)) (index_there ws 2 w2 i b l) ∙ ap (read_as names) o.2)

pub put_reads : (h : Bool) (names : Names) (form : StatementForm) (ws : List (List ℕ)) (w1 w2 w3 : List ℕ) (v i w : ℕ)
    → w1 ≡ word_at ws 1 → w2 ≡ word_at ws 2 → w3 ≡ word_at ws 3
    → IsKnown h names w1 v → Some i ≡ index_of w2 → IsKnown h names w3 w
    → (s : Statement) → by_put (shape_of form) v i w ≡ Some s → Reads h names form ws s
put_reads h names form ws w1 w2 w3 v i w a b d k l m s e = λ classes threads r found is.
    let o = put_of (shape_of form) v i w s e in
    let row = row_shaped ws r (put o.0) found (ap shape_of is ∙ o.1) in
    rw (row.operands, four_words ws (row_words ws r (put o.0) found row.operands), ← a, ← b, ← d, k.used, ← l, m.used, k.known, m.known, row.says)
    (ap (λ (n : ℕ). read_as names (o.0 v n w)) (index_there ws 2 w2 i b l) ∙ ap (read_as names) o.2)

pub span_reads : (h : Bool) (names : Names) (form : StatementForm) (ws : List (List ℕ)) (w1 w2 w3 : List ℕ) (v i n : ℕ)
    → w1 ≡ word_at ws 1 → w2 ≡ word_at ws 2 → w3 ≡ word_at ws 3
    → IsKnown h names w1 v → Some i ≡ index_of w2 → Some n ≡ index_of w3
    → (s : Statement) → by_span (shape_of form) v i n ≡ Some s → Reads h names form ws s
span_reads h names form ws w1 w2 w3 v i n a b d k l m s e = λ classes threads r found is.
    let o = span_of (shape_of form) v i n s e in
    let row = row_shaped ws r (span o.0) found (ap shape_of is ∙ o.1) in
    rw (row.operands, four_words ws (row_words ws r (span o.0) found row.operands), ← a, ← b, ← d, k.used, ← l, ← m, k.known, row.says)
    (ap (λ (j : ℕ). read_as names (o.0 v j (index_at ws 3))) (index_there ws 2 w2 i b l)
    ∙ ap (λ (j : ℕ). read_as names (o.0 v i j)) (index_there ws 3 w3 n d m) ∙ ap (read_as names) o.2)

-- what holds of the thing that may be there holds of what is found
pub if_some : (r o : Option Statement) (P : Statement → Type 0) → r ≡ o → ((s : Statement) → o ≡ Some s → P s)
    → IfSome r P
if_some None o P e f = tt
if_some (Some s) o P e f = f s (sym e)
