-- A text in which the word `thread` stands nowhere has no line that begins a thread.
use Rattle.std.proofs.Common.{◌≡◌, ℕ, suc, ◌+◌, ◌-◌, Bool, true, false, not, cond, eqb, List, [], ◌∷◌, ◌++◌, length, map, take, drop, get_or, Option, Some, None, refl, ap, sym, ◌∙◌, subst, arith}
use Rattle.std.specs.Prelude.{codes, is_some}
use Rattle.std.specs.Str.{bytes_eq}
use Rattle.std.proofs.lemmas.List.{get_or_append_left, length-append, take-append-drop}
use Rattle.std.proofs.lemmas.Slice.Eq.{bytes_eq-Decides}
use Rattle.memchr.specs.Find.{OccursAt, FindsNeedle}
use Rattle.cf_syntax.specs.Lines.{in_first, pieces, without_return, lines}
use Rattle.cf_syntax.specs.Words.{words}
use Rattle.cf_syntax.specs.Text.{thread_name, thread_names, named_threads}
use Rattle.cf_syntax.proofs.SpacedLaws.{words_spaced}

-- a word stands nowhere in bytes
abbrev pub Absent : List ℕ → List ℕ → Type 0
Absent w xs = (k : ℕ) → OccursAt xs w k → ⊥

-- so it stands in no part of them
absent_left : (w xs ys : List ℕ) → Absent w (xs ++ ys) → Absent w xs
absent_left w xs ys h k at = h k (record {
  fits = omega (arith, at.fits, length-append xs ys);
  reads = λ j lt. get_or_append_left xs ys 0 (k + j) (omega (arith, at.fits, lt)) ∙ at.reads j lt;
})

absent_tail : (w : List ℕ) (b : ℕ) (xs : List ℕ) → Absent w (b ∷ xs) → Absent w xs
absent_tail w b xs h k at = h (suc k) (record {
  fits = omega (arith, at.fits);
  reads = λ j lt. ap (λ (n : ℕ). get_or (b ∷ xs) n 0) (next j) ∙ at.reads j lt;
})
  where
    next : (j : ℕ) → suc k + j ≡ suc (k + j)
    next j = omega arith

absent_right : (w xs ys : List ℕ) → Absent w (xs ++ ys) → Absent w ys
absent_right w [] ys h = h
absent_right w (x ∷ xs) ys h = absent_right w xs ys (absent_tail w x (xs ++ ys) h)

absent_self : (w : List ℕ) → Absent w w → ⊥
absent_self w h = h 0 (record { fits = omega arith; reads = λ j lt. ap (λ (n : ℕ). get_or w n 0) (zero_plus j) })
  where
    zero_plus : (j : ℕ) → 0 + j ≡ j
    zero_plus j = omega arith

-- ---- lines

abbrev AllAbsent : List ℕ → List (List ℕ) → Type 0
AllAbsent w [] = Unit {0}
AllAbsent w (l ∷ ls) = Absent w l × AllAbsent w ls

head_is : (p q : List ℕ) (ps qs : List (List ℕ)) → p ∷ ps ≡ q ∷ qs → p ≡ q
head_is p q ps qs e = cc

-- bytes begin with their first piece
first_piece : (bs p : List ℕ) (ps : List (List ℕ)) → pieces bs ≡ p ∷ ps → (rest : List ℕ) × (bs ≡ p ++ rest)
first_piece [] p ps e = absurd cc
first_piece (b ∷ bs) p ps e = by (eqb b 10) (pieces bs) (first_piece bs) e
  where
    by : (t : Bool) (rest : List (List ℕ))
        → ((q : List ℕ) (qs : List (List ℕ)) → rest ≡ q ∷ qs → (more : List ℕ) × (bs ≡ q ++ more))
        → cond t ([] ∷ rest) (in_first b rest) ≡ p ∷ ps → (more : List ℕ) × (b ∷ bs ≡ p ++ more)
    by true rest then is = (b ∷ bs, ap (λ (l : List ℕ). l ++ (b ∷ bs)) (head_is [] p rest ps is))
    by false [] then is = (bs, ap (λ (l : List ℕ). l ++ bs) (head_is (b ∷ []) p [] ps is))
    by false (q ∷ qs) then is =
        let f = then q qs refl in
        (f.0, ap (λ (l : List ℕ). b ∷ l) f.1 ∙ ap (λ (l : List ℕ). l ++ f.0) (head_is (b ∷ q) p qs ps is))

pieces_absent : (w bs : List ℕ) → Absent w bs → AllAbsent w (pieces bs)
pieces_absent w [] h = tt
pieces_absent w (b ∷ bs) h = by (eqb b 10) (pieces bs) refl (pieces_absent w bs (absent_tail w b bs h))
  where
    by : (t : Bool) (rest : List (List ℕ)) → pieces bs ≡ rest → AllAbsent w rest
        → AllAbsent w (cond t ([] ∷ rest) (in_first b rest))
    by true rest e all = (absent_left w [] (b ∷ bs) h, all)
    by false [] e all = (absent_left w (b ∷ []) bs h, tt)
    by false (q ∷ qs) e all =
        let f = first_piece bs q qs e in
        (absent_left w (b ∷ q) f.0 (subst (λ (l : List ℕ). Absent w (b ∷ l)) f.1 h), all.1)

return_absent : (w p : List ℕ) → Absent w p → Absent w (without_return p)
return_absent w p h = by (eqb (get_or p (length p - 1) 0) 13)
  where
    by : (t : Bool) → Absent w (cond t (take (length p - 1) p) p)
    by true = absent_left w (take (length p - 1) p) (drop (length p - 1) p) (subst (Absent w) (sym (take-append-drop (length p - 1) p)) h)
    by false = h

returns_absent : (w : List ℕ) (ps : List (List ℕ)) → AllAbsent w ps → AllAbsent w (map without_return ps)
returns_absent w [] h = tt
returns_absent w (p ∷ ps) h = (return_absent w p h.0, returns_absent w ps h.1)

-- ---- threads

no_thread : (l : List ℕ) → Absent (codes "thread") l → thread_name (words l) ≡ []
no_thread l h = by (words l) refl
  where
    first : (w : List ℕ) (ws : List (List ℕ)) → words l ≡ Some (w ∷ ws) → w ≡ codes "thread" → ⊥
    first w ws e is =
        let spaced = words_spaced l (w ∷ ws) e in
        let f = spaced.1 in
        let line = subst (Absent (codes "thread")) f.is h in
        let word = absent_right (codes "thread") f.gap w (absent_left (codes "thread") (f.gap ++ w) spaced.0 line) in
        absent_self (codes "thread") (subst (Absent (codes "thread")) is word)

    by : (o : Option (List (List ℕ))) → words l ≡ o → thread_name o ≡ []
    by None e = refl
    by (Some []) e = refl
    by (Some (w ∷ ws)) e = tests (bytes_eq w (codes "thread")) refl
      where
        tests : (t : Bool) → bytes_eq w (codes "thread") ≡ t → cond t (get_or ws 0 [] ∷ []) [] ≡ []
        tests true q = absurd (first w ws e ((bytes_eq-Decides w (codes "thread")).0 q))
        tests false q = refl

no_threads : (ls : List (List ℕ)) → AllAbsent (codes "thread") ls → thread_names ls ≡ []
no_threads [] h = refl
no_threads (l ∷ ls) h = rw (no_thread l h.0, no_threads ls h.1) refl

none_found : (found : Option ℕ) (t : Bool) → is_some found ≡ not t → t ≡ true → found ≡ None
none_found None t e f = refl
none_found (Some k) t e f = let x : true ≡ false = e ∙ ap not f in absurd cc

-- where a search for the word finds none, no thread is named
pub none_named : (bs : List ℕ) (found : Option ℕ) (t : Bool) → FindsNeedle bs (codes "thread") 0 found
    → is_some found ≡ not t → t ≡ true → named_threads (lines bs) ≡ []
none_named bs found t finds e f =
    let none : FindsNeedle bs (codes "thread") 0 None = subst (FindsNeedle bs (codes "thread") 0) (none_found found t e f) finds in
    ap (take 63) (no_threads (lines bs) (returns_absent (codes "thread") (pieces bs) (pieces_absent (codes "thread") bs (λ k at. none k (omega arith) (omega (arith, at.fits)) at))))
