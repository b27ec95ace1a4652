-- A name at a place where one was found before.
use Rattle.std.proofs.Common.{◌≡◌, ℕ, ◌<◌, ◌≤◌, Bool, true, false, eqb, List, [], ◌∷◌, length, get_or, Ok, inl, inr, refl, sym, ◌∙◌, arith, ltb, subst}
use Rattle.std.specs.Prelude.{◌&&◌}
use Rattle.std.specs.List.{IsDistinct, position_or_len}
use Rattle.std.specs.Str.{bytes_eq}
use Rattle.std.specs.Global.{Vec}
use Rattle.std.proofs.lemmas.Bool.{cases_Bool, ltb-true, ltb-false}
use Rattle.std.proofs.lemmas.List.Folds.{list_any_at}
use Rattle.std.proofs.lemmas.List.Sums.{fails_before_first, passes_at_first}
use Rattle.std.proofs.lemmas.Map.Keys.{apart_from_distinct}
use Rattle.std.proofs.lemmas.Slice.Eq.{bytes_eq-Decides}
use Rattle.cf_syntax.specs.FormWords.{with_name}
use Rattle.cf_script.specs.Views.{texts}
use Rattle.cf_script.specs.NamesViews.{number_in}
use Rattle.cf_script.proofs.NameLaws.{position_texts, number_is, names_found}

abbrev AreDistinct : List (Vec ℕ) → Type 0
AreDistinct names = IsDistinct (λ (a b : Vec ℕ). bytes_eq a.items b.items) names

pub same_word : (w a b : List ℕ) → bytes_eq w a ≡ true → bytes_eq w b ≡ true → bytes_eq a b ≡ true
same_word w a b e f =
    let one : a ≡ b = sym ((bytes_eq-Decides w a).0 e) ∙ (bytes_eq-Decides w b).0 f in
    (bytes_eq-Decides a b).1 one

both_bytes : (t : Bool) → t ≡ (t && true)
both_bytes true = refl
both_bytes false = refl

-- words of one byte
pub one_byte : (a b : List ℕ) → length a ≡ 1 → length b ≡ 1 → eqb (get_or a 0 0) (get_or b 0 0) ≡ bytes_eq a b
one_byte [] b e f = absurd (omega (arith, e))
one_byte (x ∷ y ∷ a) b e f = absurd (omega (arith, e))
one_byte (x ∷ []) [] e f = absurd (omega (arith, f))
one_byte (x ∷ []) (y ∷ z ∷ b) e f = absurd (omega (arith, f))
one_byte (x ∷ []) (y ∷ []) e f = both_bytes (eqb x y)

hint_passes : (word : List ℕ) (names : List (Vec ℕ)) (i : ℕ) (x : Vec ℕ) → x ≡ get_or names i x
    → bytes_eq word x.items ≡ true → bytes_eq word (get_or names i x).items ≡ true
hint_passes word names i x at e = subst (λ (n : Vec ℕ). bytes_eq word n.items ≡ true) at e

not_both : (t : Bool) → t ≡ true → t ≡ false → ⊥
not_both t e f = cc

-- it is the first that is equal
place_hinted : (word : List ℕ) (names : List (Vec ℕ)) (i : ℕ) (x : Vec ℕ) → AreDistinct names
    → i < length names → x ≡ get_or names i x → bytes_eq word x.items ≡ true
    → i ≡ position_or_len (bytes_eq word) (texts names)
place_hinted word names i x distinct within at e =
    let k = position_or_len (λ (n : Vec ℕ). bytes_eq word n.items) names in
    let here = hint_passes word names i x at e in
    elim (cases_Bool (ltb i k)) [
      | inl t ↦ absurd (not_both _ here (fails_before_first (λ (n : Vec ℕ). bytes_eq word n.items) names i x (ltb-true i k t)))
      | inr f ↦ elim (cases_Bool (ltb k i)) [
        | inl t ↦ absurd (not_both _ (same_word word _ _ (passes_at_first (λ (n : Vec ℕ). bytes_eq word n.items) names x (omega (arith, ltb-true k i t, within))) here)
            (apart_from_distinct (λ (a b : Vec ℕ). bytes_eq a.items b.items) names k i x distinct (ltb-true k i t) within))
        | inr g ↦ let same : i ≡ k = omega (arith, ltb-false i k f, ltb-false k i g) in same ∙ sym (position_texts word names)
      ]
    ]

pub number_hinted : (limit : ℕ) (word : List ℕ) (names : List (Vec ℕ)) (i : ℕ) (x : Vec ℕ) → AreDistinct names
    → length names ≤ limit → i < length names → x ≡ get_or names i x → bytes_eq word x.items ≡ true
    → number_in limit word (texts names) ≡ Ok i
number_hinted limit word names i x distinct few within at e =
    number_is limit word (texts names) i (place_hinted word names i x distinct within at e) (omega (arith, within, few))

pub names_hinted : (word : List ℕ) (names : List (Vec ℕ)) (i : ℕ) (x : Vec ℕ) → i < length names
    → x ≡ get_or names i x → bytes_eq word x.items ≡ true → texts names ≡ with_name (texts names) word
names_hinted word names i x within at e =
    names_found word names (list_any_at (λ (n : Vec ℕ). bytes_eq word n.items) names i x within (hint_passes word names i x at e))
