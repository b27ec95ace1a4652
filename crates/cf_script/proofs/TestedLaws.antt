-- The hints of variables: each leads to a name that a form may use.
use Rattle.std.proofs.Common.{◌≡◌, ℕ, ◌+◌, ◌<◌, ◌≤◌, inl, inr, Bool, true, false, cond, not, List, [], ◌∷◌, ◌++◌, length, get_or, set, replicate, Ok, Err, Result, refl, ap, sym, ◌∙◌, arith, ltb}
use Rattle.std.specs.Prelude.{◌||◌, codes, slice_index}
use Rattle.std.specs.List.{list_any, position_or_len}
use Rattle.std.specs.Str.{bytes_eq}
use Rattle.std.specs.Global.{Vec}
use Rattle.std.proofs.lemmas.Bool.{cases_Bool, cases_eq, ltb-true, ltb-false}
use Rattle.std.proofs.lemmas.List.{get_or-set_same, get_or-set_other, get_or-replicate, get_or-map}
use Rattle.std.proofs.Math.ListN.{get_or-append, get_or-eq_default}
use Rattle.std.proofs.Math.Seq.{get_or-append_seam}
use Rattle.std.proofs.lemmas.List.Sums.{passes_at_first, prefix_len-le-length}
use Rattle.std.proofs.lemmas.List.Folds.{list_any_at}
use Rattle.std.proofs.lemmas.Slice.Eq.{bytes_eq-Decides}
use Rattle.cf_syntax.specs.declared.refusal.Reason.{Reason}
use Rattle.cf_syntax.specs.declared.refusal.Reason.TheVariants.{TooMany}
use Rattle.cf_syntax.specs.FormStatements.{word_at}
use Rattle.cf_syntax.specs.FormWords.{Names, With, is_variable, with_name}
use Rattle.cf_syntax.specs.Words.{is_name}
use Rattle.cf_script.specs.Views.{texts}
use Rattle.cf_script.specs.NamesViews.{number_in}
use Rattle.cf_script.specs.Shapes.{IsKnown}
use Rattle.cf_script.specs.Tables.{AreTested}

-- no hint leads anywhere
pub no_hint : (k i : ℕ) → slice_index (replicate 1024 0) k ≡ i + 1 → ⊥
no_hint k i e = omega (arith, zero_at k, e)
  where
    zero_at : (k : ℕ) → slice_index (replicate 1024 0) k ≡ 0
    zero_at k = elim (cases_Bool (ltb k 1024)) [
      | inl t ↦ get_or-replicate 1024 k 0 0 (ltb-true k 1024 t)
      | inr f ↦ get_or-eq_default (replicate 1024 0) 0 (ltb-false k 1024 f)
    ]

-- what stands at the place of a name of a table
pub word_there : (names : List (Vec ℕ)) (i : ℕ) (x : Vec ℕ) (word : List ℕ) → i < length names → x ≡ get_or names i x
    → bytes_eq word x.items ≡ true → word_at (texts names) i ≡ word
word_there names i x word lt at e =
    get_or-map (λ (n : Vec ℕ). n.items) names i x [] lt ∙ ap (λ (n : Vec ℕ). n.items) (sym at)
    ∙ sym ((bytes_eq-Decides word x.items).0 e)

-- a name that a hint leads to may be used
pub tested_word : (hints : List ℕ) (names : List (List ℕ)) (k i : ℕ) (word : List ℕ) → slice_index hints k ≡ i + 1
    → word_at names i ≡ word → AreTested hints names → is_variable true word ≡ true
tested_word hints names k i word e at h = ap (is_variable true) (sym at) ∙ h k i e

-- a hint more
pub tested_set : (hints : List ℕ) (names : List (List ℕ)) (k p : ℕ) (word : List ℕ) → k < length hints
    → is_variable true word ≡ true → AreTested hints names → word_at names p ≡ word
    → AreTested (set hints k (p + 1)) names
tested_set hints names k p word lt ok h at = λ j i e. elim (cases_eq j k) [
  | inl same ↦
      let here : p + 1 ≡ i + 1 = sym (get_or-set_same hints k (p + 1) 0 lt) ∙ ap (get_or_at (set hints k (p + 1))) (sym same) ∙ e in
      let is : i ≡ p = omega (arith, here) in
      ap (λ (n : ℕ). is_variable true (word_at names n)) is ∙ ap (is_variable true) at ∙ ok
  | inr apart ↦ h j i (sym (get_or-set_other hints k j (p + 1) 0 apart) ∙ e)
]
  where
    get_or_at : List ℕ → ℕ → ℕ
    get_or_at l n = get_or l n 0

-- a name more
tested_at : (names : List (List ℕ)) (word : List ℕ) (i : ℕ) → is_variable true (word_at names i) ≡ true
    → is_variable true (word_at (names ++ word ∷ []) i) ≡ true
tested_at names word i e = elim (cases_Bool (ltb i (length names))) [
  | inl t ↦ ap (is_variable true) (get_or-append names (word ∷ []) [] i (ltb-true i (length names) t)) ∙ e
  | inr f ↦ absurd (none (sym (ap (is_variable true) (get_or-eq_default names [] (ltb-false i (length names) f))) ∙ e))
]
  where
    none : is_variable true [] ≡ true → ⊥
    none h = absurd cc

pub tested_more : (hints : List ℕ) (names : List (List ℕ)) (word : List ℕ) → AreTested hints names
    → AreTested hints (with_name names word)
tested_more hints names word h = λ k i e. both (list_any (bytes_eq word) names) i (h k i e)
  where
    both : (t : Bool) (i : ℕ) → is_variable true (word_at names i) ≡ true
        → is_variable true (word_at (cond t names (names ++ word ∷ [])) i) ≡ true
    both true i e = e
    both false i e = tested_at names word i e

-- one that passes stands before the end
some_at : (test : List ℕ → Bool) (names : List (List ℕ)) → list_any test names ≡ true
    → position_or_len test names ≡ length names → ⊥
some_at test [] t e = cc
some_at test (x ∷ names) t e = tests (test x) t e (some_at test names)
  where
    tests : (u : Bool) → (u || list_any test names) ≡ true
        → cond (not u) (1 + position_or_len test names) 0 ≡ length (x ∷ names)
        → (list_any test names ≡ true → position_or_len test names ≡ length names → ⊥) → ⊥
    tests true t e rest = omega (arith, e)
    tests false t e rest = rest t (omega (arith, e))

-- a word stands where its number says
pub word_numbered : (limit : ℕ) (word : List ℕ) (names : List (List ℕ)) (place : ℕ)
    → number_in limit word names ≡ Ok place
    → word_at (with_name names word) place ≡ word
word_numbered limit word names place e =
    let n = position_or_len (bytes_eq word) names in
    let is = place_is (ltb n limit) n place e in
    ap (word_at (with_name names word)) (sym is) ∙ at_first (ltb n (length names)) refl
  where
    place_is : (t : Bool) (n i : ℕ) → cond {A = Result ℕ Reason} t (Ok n) (Err TooMany) ≡ Ok i → n ≡ i
    place_is true n i e = cc
    place_is false n i e = absurd cc

    kept : (t : Bool) → t ≡ true → cond t names (names ++ word ∷ []) ≡ names
    kept true e = refl
    kept false e = absurd cc

    put_in : (t : Bool) → t ≡ false → cond t names (names ++ word ∷ []) ≡ names ++ word ∷ []
    put_in true e = absurd cc
    put_in false e = refl

    at_first : (t : Bool) → ltb (position_or_len (bytes_eq word) names) (length names) ≡ t
        → word_at (with_name names word) (position_or_len (bytes_eq word) names) ≡ word
    at_first true lt =
        let n = position_or_len (bytes_eq word) names in
        let within = ltb-true n (length names) lt in
        let here = passes_at_first (bytes_eq word) names [] within in
        ap (λ (ns : List (List ℕ)). word_at ns n) (kept (list_any (bytes_eq word) names) (list_any_at (bytes_eq word) names n [] within here))
        ∙ sym ((bytes_eq-Decides word (word_at names n)).0 here)
    at_first false ge =
        let n = position_or_len (bytes_eq word) names in
        let most : n ≤ length names = prefix_len-le-length _ names in
        let last : n ≡ length names = omega (arith, most, ltb-false n (length names) ge) in
        elim (cases_Bool (list_any (bytes_eq word) names)) [
          | inl t ↦ absurd (some_at (bytes_eq word) names t last)
          | inr f ↦
              ap (λ (ns : List (List ℕ)). word_at ns n) (put_in (list_any (bytes_eq word) names) f)
              ∙ ap (word_at (names ++ word ∷ [])) last ∙ get_or-append_seam names word [] []
        ]

abbrev with_ok : With ℕ → Result (With ℕ) Reason
with_ok x = Ok x

-- a word that a hint leads to is known
pub known_word : (h : Bool) (names : Names) (vs : List (List ℕ)) (word : List ℕ) (place : ℕ) → vs ≡ names.variables
    → is_variable true word ≡ true → (h ≡ false → bytes_eq word (codes "info") ≡ false)
    → number_in 256 word vs ≡ Ok place → vs ≡ with_name vs word → IsKnown h names word place
known_word h names vs word place e ok info at same = record {
  used = used h ok info;
  known = numbers (ltb (position_or_len (bytes_eq word) names.variables) 256) (position_or_len (bytes_eq word) names.variables) (ap (number_in 256 word) (sym e) ∙ at);
}
  where
    plain : (t u : Bool) → (t || u) ≡ true → u ≡ false → (t || false) ≡ true
    plain true u e f = refl
    plain false u e f = absurd cc

    used : (h : Bool) → is_variable true word ≡ true → (h ≡ false → bytes_eq word (codes "info") ≡ false)
        → is_variable h word ≡ true
    used true ok info = ok
    used false ok info = plain (is_name word) (bytes_eq word (codes "info")) ok (info refl)

    found : Names → ℕ → With ℕ
    found ns n = record { names = ns; value = n }

    kept : record names { variables = with_name names.variables word } ≡ names
    kept = ap (λ (l : List (List ℕ)). record names { variables = l }) (sym (sym e ∙ same ∙ ap (λ (l : List (List ℕ)). with_name l word) e))

    numbers : (t : Bool) (n : ℕ) → cond {A = Result ℕ Reason} t (Ok n) (Err TooMany) ≡ Ok place
        → cond {A = Result (With ℕ) Reason} t (Ok (found (record names { variables = with_name names.variables word }) n)) (Err TooMany)
        ≡ Ok (found names place)
    numbers true n e =
        let is : n ≡ place = cc in
        ap (λ (m : ℕ). with_ok (found (record names { variables = with_name names.variables word }) m)) is ∙ ap (λ (ns : Names). with_ok (found ns place)) kept
    numbers false n e = absurd cc
