-- A name among names that are owned.
use Rattle.std.proofs.Common.{◌≡◌, ℕ, ◌+◌, ◌<◌, ◌≤◌, Bool, true, false, cond, not, List, [], ◌∷◌, ◌++◌, length, Some, None, Ok, Err, inl, inr, refl, ap, sym, ◌∙◌, arith, eqb, leb, ltb, subst}
use Rattle.std.specs.Prelude.{◌&&◌, ◌||◌, if◌then◌else◌, position, map}
use Rattle.std.proofs.lemmas.Bool.{cases_Bool, and_parts, ltb-true, ltb-false, lt-ltb, leb-true}
use Rattle.std.specs.List.{list_all, list_any, position_or_len}
use Rattle.std.specs.Str.{bytes_eq}
use Rattle.std.specs.Global.{Vec}
use Rattle.std.proofs.lemmas.List.{length-map, map_push}
use Rattle.std.proofs.lemmas.List.Sums.{prefix_len-le-length}
use Rattle.std.proofs.lemmas.Slice.Eq.{bytes_eq-Decides}
use Rattle.cf_syntax.specs.declared.place.Place.{Place}
use Rattle.cf_syntax.specs.declared.place.Place.TheVariants.{Between, Plain}
use Rattle.cf_syntax.specs.FormWords.{with_name}
use Rattle.cf_syntax.specs.Text.{place_of}
use Rattle.cf_syntax.specs.Words.{is_blank, goes, reserved, is_reserved}
use Rattle.cf_syntax.specs.declared.refusal.Reason.TheVariants.{TooMany}
use Rattle.cf_script.specs.Views.{texts}
use Rattle.cf_script.specs.NamesViews.{number_in}

-- a word among the names of some things
pub position_name : {A : Type 0} (name : A → List ℕ) (word : List ℕ) (xs : List A)
    → position_or_len (bytes_eq word) (map name xs) ≡ position_or_len (λ x. bytes_eq word (name x)) xs
position_name name word [] = refl
position_name name word (x ∷ xs) = ap (λ (i : ℕ). cond (not (bytes_eq word (name x))) (1 + i) 0) (position_name name word xs)

pub any_name : {A : Type 0} (name : A → List ℕ) (word : List ℕ) (xs : List A)
    → list_any (bytes_eq word) (map name xs) ≡ list_any (λ x. bytes_eq word (name x)) xs
any_name name word [] = refl
any_name name word (x ∷ xs) = ap (λ (t : Bool). bytes_eq word (name x) || t) (any_name name word xs)

pub place_named : {A : Type 0} (name : A → List ℕ) (word : List ℕ) (xs : List A)
    → place_of (map name xs) word ≡ position (λ x. bytes_eq word (name x)) xs
place_named name word xs = rw (position_name name word xs, length-map xs name) refl

-- the same of names that are owned
pub position_texts : (word : List ℕ) (names : List (Vec ℕ))
    → position_or_len (bytes_eq word) (texts names) ≡ position_or_len (λ n. bytes_eq word n.items) names
position_texts word names = position_name (λ (n : Vec ℕ). n.items) word names

pub any_texts : (word : List ℕ) (names : List (Vec ℕ))
    → list_any (bytes_eq word) (texts names) ≡ list_any (λ n. bytes_eq word n.items) names
any_texts word names = any_name (λ (n : Vec ℕ). n.items) word names

some_is : (t : Bool) (n i : ℕ) → cond t (Some n) None ≡ Some i → i ≡ n
some_is true n i e = cc
some_is false n i e = absurd cc

-- the place of a name that is there
pub place_found : (word : List ℕ) (names : List (Vec ℕ)) (place : ℕ)
    → position (λ n. bytes_eq word n.items) names ≡ Some place → place ≡ position_or_len (bytes_eq word) (texts names)
place_found word names place e =
    let n = position_or_len (λ (v : Vec ℕ). bytes_eq word v.items) names in
    some_is (ltb n (length names)) n place e ∙ sym (position_texts word names)

-- and of one that is put in
pub place_new : (word : List ℕ) (value : Vec ℕ) (names : List (Vec ℕ)) (place : ℕ) → value.items ≡ word
    → place ≡ position_or_len (λ n. bytes_eq value.items n.items) names
    → place ≡ position_or_len (bytes_eq word) (texts names)
place_new word value names place e is = is ∙ ap (λ (w : List ℕ). position_or_len (λ (n : Vec ℕ). bytes_eq w n.items) names) e ∙ sym (position_texts word names)

kept : (t : Bool) (names more : List (List ℕ)) → t ≡ true → names ≡ cond t names more
kept true names more e = refl
kept false names more e = absurd cc

-- the names with a name that is there
pub names_found : (word : List ℕ) (names : List (Vec ℕ)) → list_any (λ n. bytes_eq word n.items) names ≡ true
    → texts names ≡ with_name (texts names) word
names_found word names e = kept (list_any (bytes_eq word) (texts names)) (texts names) (texts names ++ word ∷ []) (any_texts word names ∙ e)

-- the names after an insert
abbrev pub inserted : Vec ℕ → List (Vec ℕ) → List (Vec ℕ)
inserted value names = if list_any (λ n. bytes_eq value.items n.items) names then names else names ++ value ∷ []

texts_both : (t : Bool) (value : Vec ℕ) (names : List (Vec ℕ))
    → texts (cond t names (names ++ value ∷ [])) ≡ cond t (texts names) (texts names ++ value.items ∷ [])
texts_both true value names = refl
texts_both false value names = map_push (λ n. n.items) names value

pub names_new : (word : List ℕ) (value : Vec ℕ) (names after : List (Vec ℕ)) → value.items ≡ word
    → after ≡ inserted value names → texts after ≡ with_name (texts names) word
names_new word value names after e is =
    ap texts is ∙ texts_both (list_any (λ n. bytes_eq value.items n.items) names) value names
    ∙ ap (λ (t : Bool). cond t (texts names) (texts names ++ value.items ∷ [])) (sym (any_texts value.items names)) ∙ ap (with_name (texts names)) e

-- the number of a name, where there is room for it
pub number_is : (limit : ℕ) (word : List ℕ) (names : List (List ℕ)) (place : ℕ)
    → place ≡ position_or_len (bytes_eq word) names → place < limit
    → number_in limit word names ≡ Ok place
number_is limit word names place e lt = rw (sym e, lt-ltb place limit lt) refl

below : (n m i : ℕ) → cond (ltb n m) (Some n) None ≡ Some i → i < m
below n m i e = tests (ltb n m) refl e
  where
    tests : (t : Bool) → ltb n m ≡ t → cond t (Some n) None ≡ Some i → i < m
    tests true at e = let same : n ≡ i = cc in subst (λ (k : ℕ). k < m) same (ltb-true n m at)
    tests false at e = absurd cc

pub not_below : (n m : ℕ) → m ≤ n → ltb n m ≡ false
not_below n m le = elim (cases_Bool (ltb n m)) [ inl t ↦ absurd (omega (arith, ltb-true n m t, le)) | inr f ↦ f ]

past : (n m : ℕ) → cond (ltb n m) (Some n) None ≡ None → m ≤ n
past n m e = tests (ltb n m) refl e
  where
    tests : (t : Bool) → ltb n m ≡ t → cond t (Some n) None ≡ None → m ≤ n
    tests true at e = absurd cc
    tests false at e = ltb-false n m at

-- a name that is there is within the names, and where there is none and no room, it is one too many
pub place_below : (word : List ℕ) (names : List (Vec ℕ)) (place : ℕ)
    → position (λ n. bytes_eq word n.items) names ≡ Some place → place < length names
place_below word names place e = below (position_or_len (λ (n : Vec ℕ). bytes_eq word n.items) names) (length names) place e

pub one_too_many : (limit : ℕ) (word : List ℕ) (names : List (Vec ℕ))
    → position (λ n. bytes_eq word n.items) names ≡ None → limit ≤ length names
    → number_in limit word (texts names) ≡ Err TooMany
one_too_many limit word names none full =
    let n = position_or_len (λ (v : Vec ℕ). bytes_eq word v.items) names in
    let over : ltb n limit ≡ false = not_below n limit (omega (arith, past n (length names) none, full)) in
    rw (position_texts word names, over) refl

pub place_within : (word : List ℕ) (names : List (Vec ℕ)) (place : ℕ)
    → place ≡ position_or_len (bytes_eq word) (texts names) → place ≤ length names
place_within word names place e =
    let within : position_or_len (bytes_eq word) (texts names) ≤ length (texts names) = prefix_len-le-length _ (texts names) in
    omega (arith, e, within, length-map names (λ (n : Vec ℕ). n.items))

-- a word that is no name has 3 to 8 bytes
any_len : (rs : List (List ℕ)) (word : List ℕ) → list_all (λ r. leb 3 (length r) && leb (length r) 8) rs ≡ true
    → list_any (λ r. bytes_eq r word) rs ≡ true
    → (leb 3 (length word) && leb (length word) 8) ≡ true
any_len [] word all e = absurd cc
any_len (r ∷ rs) word all e =
    let h = and_parts (leb 3 (length r) && leb (length r) 8) (list_all (λ r. leb 3 (length r) && leb (length r) 8) rs) all in
    tests (bytes_eq r word) refl e h.0 (any_len rs word h.1)
  where
    tests : (t : Bool) → bytes_eq r word ≡ t → (t || list_any (λ r. bytes_eq r word) rs) ≡ true
        → (leb 3 (length r) && leb (length r) 8) ≡ true
        → (list_any (λ r. bytes_eq r word) rs ≡ true → (leb 3 (length word) && leb (length word) 8) ≡ true)
        → (leb 3 (length word) && leb (length word) 8) ≡ true
    tests true at e h rest = subst (λ (w : List ℕ). (leb 3 (length w) && leb (length w) 8) ≡ true) ((bytes_eq-Decides r word).0 at) h
    tests false at e h rest = rest e

pub reserved_len : (word : List ℕ) → is_reserved word ≡ true → (3 ≤ length word) × (length word ≤ 8)
reserved_len word e =
    let h = and_parts (leb 3 (length word)) (leb (length word) 8) (any_len reserved word refl e) in
    (leb-true 3 (length word) h.0, leb-true (length word) 8 h.1)

pub not_reserved : (word : List ℕ) → ((3 ≤ length word) × (length word ≤ 8) → ⊥) → false ≡ is_reserved word
not_reserved word out = elim (cases_Bool (is_reserved word)) [ inl t ↦ absurd (out (reserved_len word t)) | inr f ↦ sym f ]

-- a byte within a plain word leads to a blank or stays in it
pub stays_plain : (b : ℕ) (q : Place) → goes Plain b ≡ Some q → (q ≡ Between → ⊥) → q ≡ Plain
stays_plain b q e apart = tests (is_blank b) (eqb b 34) e
  where
    tests : (t u : Bool) → cond t (Some Between) (cond u None (Some Plain)) ≡ Some q → q ≡ Plain
    tests true u e = absurd (apart cc)
    tests false true e = absurd cc
    tests false false e = cc
