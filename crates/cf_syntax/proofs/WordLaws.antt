-- How words go on from byte to byte.
use Rattle.std.proofs.Common.{◌≡◌, ◌⊎◌, inl, inr, ℕ, ◌+◌, ◌<◌, ◌≤◌, Bool, true, false, cond, eqb, List, [], ◌∷◌, ◌++◌, length, take, drop, get_or, Option, Some, None, refl, ap, sym, ◌∙◌, arith, add-one}
use Rattle.std.specs.Option.{option_map}
use Rattle.std.specs.Prelude.{option_and_then, nat_lt, ◌||◌, ◌==◌, if◌then◌else◌}
use Rattle.std.proofs.lemmas.List.{drop_all, drop_more, take_more}
use Rattle.cf_syntax.specs.declared.place.Place.{Place}
use Rattle.cf_syntax.specs.declared.place.Place.TheVariants.{Between, Plain, Quoted, Escaped, Closed}
use Rattle.cf_syntax.specs.Lines.{in_first}
use Rattle.cf_syntax.specs.Words.{is_blank, goes, past_blank, with_byte, words_at_end, words_from, words}

-- words whose first begins with these bytes
abbrev pub first_with : List ℕ → List (List ℕ) → List (List ℕ)
first_with [] ws = ws
first_with (b ∷ front) ws = in_first b (first_with front ws)

abbrev pub goes_on_from : List ℕ → Option (List (List ℕ)) → Option (List (List ℕ))
goes_on_from front rest = option_map (first_with front) rest

-- a word that is whole, and the words after it
abbrev pub behind : List ℕ → Option (List (List ℕ)) → Option (List (List ℕ))
behind word rest = option_map (λ ws. word ∷ ws) rest

pub same_map : (o : Option (List (List ℕ))) → option_map (λ ws. ws) o ≡ o
same_map None = refl
same_map (Some ws) = refl

pub goes_on_from_start : (o : Option (List (List ℕ))) → o ≡ goes_on_from [] o
goes_on_from_start None = refl
goes_on_from_start (Some ws) = refl

-- ---- a byte within a word

first_step : (front : List ℕ) (b : ℕ) (ws : List (List ℕ))
    → first_with front (in_first b ws) ≡ first_with (front ++ b ∷ []) ws
first_step [] b ws = refl
first_step (c ∷ front) b ws = ap (in_first c) (first_step front b ws)

front_step : (front : List ℕ) (b : ℕ) (o : Option (List (List ℕ)))
    → goes_on_from front (option_map (in_first b) o) ≡ goes_on_from (front ++ b ∷ []) o
front_step front b None = refl
front_step front b (Some ws) = ap (λ (x : List (List ℕ)). Some x) (first_step front b ws)

step_to : (p q : Place) (b : ℕ) (bs : List ℕ) → goes p b ≡ Some q
    → words_from p (b ∷ bs) ≡ option_map (with_byte p q b) (words_from q bs)
step_to p q b bs e = ap (λ (o : Option Place). option_and_then (λ r. option_map (with_byte p r b) (words_from r bs)) o)
    e

abbrev pub IsWithin : Place → Type 0
IsWithin Between = ⊥
IsWithin p = Unit {0}

within_step : (p q : Place) (b : ℕ) (o : Option (List (List ℕ))) → IsWithin q
    → option_map (with_byte p q b) o ≡ option_map (in_first b) o
within_step p Between b o inside = absurd inside
within_step p Plain b o inside = refl
within_step p Quoted b o inside = refl
within_step p Escaped b o inside = refl
within_step p Closed b o inside = refl

pub word_goes : (front : List ℕ) (p q : Place) (b : ℕ) (bs : List ℕ) → goes p b ≡ Some q → IsWithin q
    → goes_on_from front (words_from p (b ∷ bs)) ≡ goes_on_from (front ++ b ∷ []) (words_from q bs)
word_goes front p q b bs e inside =
    ap (goes_on_from front) (step_to p q b bs e ∙ within_step p q b (words_from q bs) inside)
    ∙ front_step front b (words_from q bs)

-- ---- the end of a word

first_whole : (front : List ℕ) (ws : List (List ℕ)) → first_with front ([] ∷ ws) ≡ front ∷ ws
first_whole [] ws = refl
first_whole (b ∷ front) ws = ap (in_first b) (first_whole front ws)

ends_map : (front : List ℕ) (o : Option (List (List ℕ)))
    → goes_on_from front (option_map (λ ws. [] ∷ ws) o) ≡ behind front o
ends_map front None = refl
ends_map front (Some ws) = ap (λ (x : List (List ℕ)). Some x) (first_whole front ws)

past_within : (p : Place) (o : Option (List (List ℕ))) → IsWithin p
    → option_map (past_blank p) o ≡ option_map (λ ws. [] ∷ ws) o
past_within Between o inside = absurd inside
past_within Plain o inside = refl
past_within Quoted o inside = refl
past_within Escaped o inside = refl
past_within Closed o inside = refl

plain_ends : (t u : Bool) → cond t (Some Between) (cond u None (Some Plain)) ≡ Some Between → t ≡ true
plain_ends true u e = refl
plain_ends false true e = absurd cc
plain_ends false false e = absurd cc

quoted_stays : (t u v : Bool) → cond t None (cond u (Some Closed) (cond v (Some Escaped) (Some Quoted))) ≡ Some Between
    → ⊥
quoted_stays true u v e = cc
quoted_stays false true v e = cc
quoted_stays false false true e = cc
quoted_stays false false false e = cc

escaped_stays : (t : Bool) → cond t (Some Quoted) None ≡ Some Between → ⊥
escaped_stays true e = cc
escaped_stays false e = cc

closed_ends : (t : Bool) → cond t (Some Between) None ≡ Some Between → t ≡ true
closed_ends true e = refl
closed_ends false e = absurd cc

ends_at_blank : (p : Place) (b : ℕ) → IsWithin p → goes p b ≡ Some Between → is_blank b ≡ true
ends_at_blank Between b inside e = absurd inside
ends_at_blank Plain b inside e = plain_ends (is_blank b) (eqb b 34) e
ends_at_blank Quoted b inside e = absurd (quoted_stays (nat_lt b 32) (eqb b 34) (eqb b 92) e)
ends_at_blank Escaped b inside e = absurd (escaped_stays (eqb b 34 || (eqb b 92 || eqb b 110)) e)
ends_at_blank Closed b inside e = closed_ends (is_blank b) e

blank_goes : (t : Bool) (q : Option Place) → t ≡ true → cond t (Some Between) q ≡ Some Between
blank_goes true q e = refl
blank_goes false q e = absurd cc

-- a blank in front
pub blank_first : (b : ℕ) (bs : List ℕ) → is_blank b ≡ true → words (b ∷ bs) ≡ words bs
blank_first b bs e = step_to Between Between b bs
    (blank_goes (is_blank b) (cond (eqb b 34) (Some Quoted) (Some Plain)) e) ∙ same_map (words bs)

pub word_ends : (front : List ℕ) (p : Place) (b : ℕ) (bs : List ℕ) → IsWithin p → goes p b ≡ Some Between
    → goes_on_from front (words_from p (b ∷ bs)) ≡ behind front (words (b ∷ bs))
word_ends front p b bs inside e =
    ap (goes_on_from front) (step_to p Between b bs e ∙ past_within p (words bs) inside) ∙ ends_map front (words bs)
    ∙ ap (behind front) (sym (blank_first b bs (ends_at_blank p b inside e)))

-- a byte that may not stand there
pub word_fails : (p : Place) (b : ℕ) (bs : List ℕ) → goes p b ≡ None → words_from p (b ∷ bs) ≡ None
word_fails p b bs e = ap (λ (o : Option Place). option_and_then (λ r. option_map (with_byte p r b) (words_from r bs)) o)
    e

-- ---- the first byte of a word

abbrev pub first_place : ℕ → Place
first_place b = if b == 34 then Quoted else Plain

begun_goes : (t u : Bool) → t ≡ false
    → cond t (Some Between) (cond u (Some Quoted) (Some Plain)) ≡ Some (cond u Quoted Plain)
begun_goes true u e = absurd cc
begun_goes false true e = refl
begun_goes false false e = refl

begun_within : (u : Bool) → IsWithin (cond u Quoted Plain)
begun_within true = tt
begun_within false = tt

first_map : (b : ℕ) (o : Option (List (List ℕ))) → option_map (in_first b) o ≡ goes_on_from (b ∷ []) o
first_map b None = refl
first_map b (Some ws) = refl

whole_map : (b : ℕ) (word : List ℕ) (o : Option (List (List ℕ)))
    → goes_on_from (b ∷ []) (behind word o) ≡ behind (b ∷ word) o
whole_map b word None = refl
whole_map b word (Some ws) = refl

pub begins : (b : ℕ) (bs : List ℕ) → is_blank b ≡ false
    → words (b ∷ bs) ≡ goes_on_from (b ∷ []) (words_from (first_place b) bs)
begins b bs e =
    step_to Between (first_place b) b bs (begun_goes (is_blank b) (eqb b 34) e)
    ∙ within_step Between (first_place b) b (words_from (first_place b) bs) (begun_within (eqb b 34))
    ∙ first_map b (words_from (first_place b) bs)

-- a word by its first byte and the rest of it
pub word_begins : (bytes : List ℕ) (n : ℕ) → 0 < length bytes → is_blank (get_or bytes 0 0) ≡ false
    → words_from (first_place (get_or bytes 0 0)) (drop 1 bytes)
    ≡ behind (take n (drop 1 bytes)) (words (drop n (drop 1 bytes)))
    → words bytes ≡ behind (take (n + 1) bytes) (words (drop (n + 1) bytes))
word_begins [] n some e h = absurd (omega arith)
word_begins (b ∷ bs) n some e h =
    rw add-one (begins b bs e ∙ ap (goes_on_from (b ∷ [])) h ∙ whole_map b (take n bs) (words (drop n bs)))

pub word_begins_not : (bytes : List ℕ) → 0 < length bytes → is_blank (get_or bytes 0 0) ≡ false
    → words_from (first_place (get_or bytes 0 0)) (drop 1 bytes) ≡ None → words bytes ≡ None
word_begins_not [] some e h = absurd (omega arith)
word_begins_not (b ∷ bs) some e h = begins b bs e ∙ ap (goes_on_from (b ∷ [])) h

-- ---- the end of the line

-- a word that is of its form there
pub word_closes : (front : List ℕ) (p : Place) → (p ≡ Plain) ⊎ (p ≡ Closed)
    → goes_on_from front (words_at_end p) ≡ behind front (words [])
word_closes front p at = elim at [ inl e ↦ rw e (ends_map front (words [])) | inr e ↦ rw e (ends_map front (words [])) ]

-- ---- the same at a place of a list

pub within_from : (q : Place) → (q ≡ Between → ⊥) → IsWithin q
within_from Between apart = absurd (apart refl)
within_from Plain apart = tt
within_from Quoted apart = tt
within_from Escaped apart = tt
within_from Closed apart = tt

pub word_goes_at : (bytes : List ℕ) (i : ℕ) (p q : Place) (all : Option (List (List ℕ))) → i < length bytes
    → goes p (get_or bytes i 0) ≡ Some q → IsWithin q
    → all ≡ goes_on_from (take i bytes) (words_from p (drop i bytes))
    → all ≡ goes_on_from (take (i + 1) bytes) (words_from q (drop (i + 1) bytes))
word_goes_at bytes i p q all lt e inside so_far =
    let here = word_goes (take i bytes) p q (get_or bytes i 0) (drop (i + 1) bytes) e inside in
    so_far ∙ ap (λ (r : List ℕ). goes_on_from (take i bytes) (words_from p r)) (drop_more bytes i 0 lt)
    ∙ rw (take_more bytes i 0 lt) here

pub word_ends_at : (bytes : List ℕ) (i : ℕ) (p : Place) (all : Option (List (List ℕ))) → i < length bytes
    → goes p (get_or bytes i 0) ≡ Some Between → IsWithin p
    → all ≡ goes_on_from (take i bytes) (words_from p (drop i bytes))
    → all ≡ behind (take i bytes) (words (drop i bytes))
word_ends_at bytes i p all lt e inside so_far =
    let here = word_ends (take i bytes) p (get_or bytes i 0) (drop (i + 1) bytes) inside e in
    so_far ∙ ap (λ (r : List ℕ). goes_on_from (take i bytes) (words_from p r)) (drop_more bytes i 0 lt) ∙ here
    ∙ ap (λ (r : List ℕ). behind (take i bytes) (words r)) (sym (drop_more bytes i 0 lt))

pub word_closes_at : (bytes : List ℕ) (i : ℕ) (p : Place) (all : Option (List (List ℕ))) → length bytes ≤ i
    → i ≤ length bytes → (p ≡ Plain) ⊎ (p ≡ Closed)
    → all ≡ goes_on_from (take i bytes) (words_from p (drop i bytes))
    → all ≡ behind (take (length bytes) bytes) (words (drop (length bytes) bytes))
word_closes_at bytes i p all ge le at so_far =
    let e : i ≡ length bytes = omega arith in
    let none = drop_all (length bytes) bytes (omega arith) in
    so_far ∙ rw (e, none) (word_closes (take (length bytes) bytes) p at)
