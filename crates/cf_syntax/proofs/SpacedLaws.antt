-- The words that are found are those that the line has, and no others.
use Rattle.std.proofs.Common.{◌≡◌, ◌⊎◌, inl, inr, ℕ, Bool, true, false, not, cond, eqb, List, [], ◌∷◌, ◌++◌, Option, Some, None, refl, ap, sym, ◌∙◌, arith, append_assoc, append-nil, subst}
use Rattle.std.specs.Prelude.{◌&&◌, nat_lt, option_and_then}
use Rattle.cf_syntax.specs.Lines.{in_first}
use Rattle.std.specs.List.{list_all}
use Rattle.std.specs.Option.{option_map}
use Rattle.std.proofs.lemmas.Bool.{and_parts, and_from, eqb-true}
use Rattle.cf_syntax.specs.declared.place.Place.{Place}
use Rattle.cf_syntax.specs.declared.place.Place.TheVariants.{Between, Plain, Quoted, Escaped, Closed}
use Rattle.cf_syntax.specs.Words.{is_blank, goes, with_byte, words_at_end, words_from, words}
use Rattle.cf_syntax.specs.Spaced.{is_plain_byte, is_text_byte, is_escape, is_quoted, IsText, IsPlain, ends_word, Spaced}
use Rattle.cf_syntax.proofs.WordLaws.{goes_on_from, behind, blank_first, word_goes, word_ends, word_closes, begins}

-- ---- from the words of a line to those that are found

-- where the byte after some byte stands
plain_goes : (b : ℕ) → is_plain_byte b ≡ true → goes Plain b ≡ Some Plain
plain_goes b e = tests (is_blank b) (eqb b 34) e
  where
    tests : (t u : Bool) → (not t && not u) ≡ true → cond t (Some Between) (cond u None (Some Plain)) ≡ Some Plain
    tests true u e = absurd cc
    tests false true e = absurd cc
    tests false false e = refl

text_goes : (b : ℕ) → is_text_byte b ≡ true → goes Quoted b ≡ Some Quoted
text_goes b e = tests (nat_lt b 32) (eqb b 34) (eqb b 92) e
  where
    tests : (t u v : Bool) → (not t && (not u && not v)) ≡ true
        → cond t None (cond u (Some Closed) (cond v (Some Escaped) (Some Quoted))) ≡ Some Quoted
    tests true u v e = absurd cc
    tests false true v e = absurd cc
    tests false false true e = absurd cc
    tests false false false e = refl

blank_goes : (p : Place) (b : ℕ) → (p ≡ Plain) ⊎ (p ≡ Closed) → is_blank b ≡ true → goes p b ≡ Some Between
blank_goes p b (inl e) blank = rw (e, blank) refl
blank_goes p b (inr e) blank = rw (e, blank) refl

-- a word ends before a blank, and at the end of the line
ends_before : (front rest : List ℕ) (p : Place) → (p ≡ Plain) ⊎ (p ≡ Closed) → ends_word rest ≡ true
    → goes_on_from front (words_from p rest) ≡ behind front (words rest)
ends_before front [] p at e = word_closes front p at
ends_before front (b ∷ bs) p (inl is) e = rw is (word_ends front Plain b bs tt (blank_goes Plain b (inl refl) e))
ends_before front (b ∷ bs) p (inr is) e = rw is (word_ends front Closed b bs tt (blank_goes Closed b (inr refl) e))

plain_run : (front word rest : List ℕ) → list_all is_plain_byte word ≡ true → ends_word rest ≡ true
    → goes_on_from front (words_from Plain (word ++ rest)) ≡ behind (front ++ word) (words rest)
plain_run front [] rest all e = ends_before front rest Plain (inl refl) e ∙ ap (λ (w : List ℕ). behind w (words rest)) (sym (append-nil front))
plain_run front (b ∷ bs) rest all e =
    let h = and_parts (is_plain_byte b) (list_all is_plain_byte bs) all in
    word_goes front Plain Plain b (bs ++ rest) (plain_goes b h.0) tt
    ∙ plain_run (front ++ b ∷ []) bs rest h.1 e
    ∙ ap (λ (w : List ℕ). behind w (words rest)) (append_assoc front (b ∷ []) bs)

-- a TEXT from after its first quote on
quoted_run : (front inner rest : List ℕ) → is_quoted inner ≡ true → ends_word rest ≡ true
    → goes_on_from front (words_from Quoted (inner ++ 34 ∷ rest)) ≡ behind (front ++ (inner ++ 34 ∷ [])) (words rest)
quoted_run front [] rest q e = word_goes front Quoted Closed 34 rest refl tt ∙ ends_before (front ++ 34 ∷ []) rest Closed (inr refl) e
quoted_run front (b ∷ []) rest q e =
    word_goes front Quoted Quoted b (34 ∷ rest) (text_goes b q) tt
    ∙ quoted_run (front ++ b ∷ []) [] rest refl e
    ∙ ap (λ (w : List ℕ). behind w (words rest)) (append_assoc front (b ∷ []) (34 ∷ []))
quoted_run front (b ∷ c ∷ bs) rest q e =
    tests (eqb b 92) refl q (λ f h. quoted_run f bs rest h e) (λ f h. quoted_run f (c ∷ bs) rest h e)
  where
    tests : (t : Bool) → eqb b 92 ≡ t
        → cond t (is_escape c && is_quoted bs) (is_text_byte b && is_quoted (c ∷ bs)) ≡ true
        → ((f : List ℕ) → is_quoted bs ≡ true → goes_on_from f (words_from Quoted (bs ++ 34 ∷ rest)) ≡ behind (f ++ (bs ++ 34 ∷ [])) (words rest))
        → ((f : List ℕ) → is_quoted (c ∷ bs) ≡ true → goes_on_from f (words_from Quoted (c ∷ bs ++ 34 ∷ rest)) ≡ behind (f ++ (c ∷ (bs ++ 34 ∷ []))) (words rest))
        → goes_on_from front (words_from Quoted (b ∷ c ∷ bs ++ 34 ∷ rest))
        ≡ behind (front ++ (b ∷ c ∷ (bs ++ 34 ∷ []))) (words rest)
    tests true is h short long =
        let p = and_parts (is_escape c) (is_quoted bs) h in
        let here : b ≡ 92 = eqb-true b 92 is in
        word_goes front Quoted Escaped b (c ∷ bs ++ 34 ∷ rest) (rw here refl) tt
        ∙ word_goes (front ++ b ∷ []) Escaped Quoted c (bs ++ 34 ∷ rest) (rw p.0 refl) tt
        ∙ short ((front ++ b ∷ []) ++ c ∷ []) p.1
        ∙ ap (λ (w : List ℕ). behind w (words rest)) (append_assoc (front ++ b ∷ []) (c ∷ []) (bs ++ 34 ∷ []) ∙ append_assoc front (b ∷ []) (c ∷ bs ++ 34 ∷ []))
    tests false is h short long =
        let p = and_parts (is_text_byte b) (is_quoted (c ∷ bs)) h in
        word_goes front Quoted Quoted b (c ∷ bs ++ 34 ∷ rest) (text_goes b p.0) tt
        ∙ long (front ++ b ∷ []) p.1
        ∙ ap (λ (w : List ℕ). behind w (words rest)) (append_assoc front (b ∷ []) (c ∷ bs ++ 34 ∷ []))

plain_begins : (t u : Bool) → (not t && not u) ≡ true → (t ≡ false) × (u ≡ false)
plain_begins true u e = absurd cc
plain_begins false true e = absurd cc
plain_begins false false e = (refl, refl)

word_first : (word rest : List ℕ) → IsText word ⊎ IsPlain word → ends_word rest ≡ true
    → words (word ++ rest) ≡ behind word (words rest)
word_first word rest (inl text) e =
    rw text.is (begins 34 ((text.inner ++ 34 ∷ []) ++ rest) refl
    ∙ ap (λ (bs : List ℕ). goes_on_from (34 ∷ []) (words_from Quoted bs)) (append_assoc text.inner (34 ∷ []) rest)
    ∙ quoted_run (34 ∷ []) text.inner rest text.quoted e)
word_first [] rest (inr plain) e = absurd (omega (arith, plain.some))
word_first (b ∷ bs) rest (inr plain) e =
    let p = and_parts (is_plain_byte b) (list_all is_plain_byte bs) plain.plain in
    let t = plain_begins (is_blank b) (eqb b 34) p.0 in
    begins b (bs ++ rest) t.0
    ∙ ap (λ (u : Bool). goes_on_from (b ∷ []) (words_from (cond u Quoted Plain) (bs ++ rest))) t.1
    ∙ plain_run (b ∷ []) bs rest p.1 e

blanks_first : (gap rest : List ℕ) → list_all is_blank gap ≡ true → words (gap ++ rest) ≡ words rest
blanks_first [] rest e = refl
blanks_first (b ∷ gap) rest e =
    let p = and_parts (is_blank b) (list_all is_blank gap) e in
    blank_first b (gap ++ rest) p.0 ∙ blanks_first gap rest p.1

blanks_only : (line : List ℕ) → list_all is_blank line ≡ true → words line ≡ Some []
blanks_only [] e = refl
blanks_only (b ∷ bs) e =
    let p = and_parts (is_blank b) (list_all is_blank bs) e in
    blank_first b bs p.0 ∙ blanks_only bs p.1

pub spaced_words : (line : List ℕ) (ws : List (List ℕ)) → Spaced line ws → words line ≡ Some ws
spaced_words line [] h = blanks_only line h
spaced_words line (w ∷ ws) h =
    let first = h.1 in
    rw first.is (ap words (append_assoc first.gap w h.0) ∙ blanks_first first.gap (w ++ h.0) first.blank ∙ word_first w h.0 first.word_is first.ends
    ∙ ap (behind w) (spaced_words h.0 ws h.2))

-- ---- from the words that are found to those of the line

-- the rest of a word, what comes after it, and the words there
record Cut (T : List ℕ → Type 0) (bs : List ℕ) (ws : List (List ℕ)) : Type 0 where
  front : List ℕ
  rest : List ℕ
  others : List (List ℕ)
  is : bs ≡ front ++ rest
  found : ws ≡ front ∷ others
  fits : T front
  ends : ends_word rest ≡ true
  more : Spaced rest others

-- what is left of a TEXT, and of one after a backslash
record Closes (front : List ℕ) : Type 0 where
  inner : List ℕ
  is : front ≡ inner ++ 34 ∷ []
  quoted : is_quoted inner ≡ true

record Escapes (front : List ℕ) : Type 0 where
  byte : ℕ
  left : List ℕ
  is : front ≡ byte ∷ left
  escape : is_escape byte ≡ true
  closes : Closes left

abbrev Means : Place → List ℕ → List (List ℕ) → Type 0
Means Between bs ws = Spaced bs ws
Means Plain bs ws = Cut (λ front. list_all is_plain_byte front ≡ true) bs ws
Means Quoted bs ws = Cut Closes bs ws
Means Escaped bs ws = Cut Escapes bs ws
Means Closed bs ws = Cut (λ front. front ≡ []) bs ws

-- nothing is left of a word
cut_none : (T : List ℕ → Type 0) (bs : List ℕ) (ws : List (List ℕ)) → T [] → ends_word bs ≡ true → Spaced bs ws
    → Cut T bs ([] ∷ ws)
cut_none T bs ws fits ends more = record { front = []; rest = bs; others = ws; is = refl; found = refl; fits = fits; ends = ends; more = more }

-- a byte more in front of a word
cut_more : (T U : List ℕ → Type 0) (b : ℕ) (bs : List ℕ) (ws : List (List ℕ))
    → ((front : List ℕ) → T front → U (b ∷ front)) → Cut T bs ws
    → Cut U (b ∷ bs) (in_first b ws)
cut_more T U b bs ws step c = record {
  front = b ∷ c.front;
  rest = c.rest;
  others = c.others;
  is = ap (λ (r : List ℕ). b ∷ r) c.is;
  found = ap (in_first b) c.found;
  fits = step c.front c.fits;
  ends = c.ends;
  more = c.more;
}

-- a blank more in front of a line
spaced_blank : (b : ℕ) (bs : List ℕ) (ws : List (List ℕ)) → is_blank b ≡ true → Spaced bs ws → Spaced (b ∷ bs) ws
spaced_blank b bs [] blank h = and_from (is_blank b) (list_all is_blank bs) blank h
spaced_blank b bs (w ∷ ws) blank h = (
  h.0,
  record {
    gap = b ∷ h.1.gap;
    is = ap (λ (r : List ℕ). b ∷ r) h.1.is;
    blank = and_from (is_blank b) (list_all is_blank h.1.gap) blank h.1.blank;
    word_is = h.1.word_is;
    ends = h.1.ends;
  },
  h.2,
)

-- a word that begins a line
spaced_word : (b : ℕ) (bs : List ℕ) (ws : List (List ℕ))
    → Cut (λ front. IsText (b ∷ front) ⊎ IsPlain (b ∷ front)) bs ws
    → Spaced (b ∷ bs) (in_first b ws)
spaced_word b bs ws c =
    subst (λ (vs : List (List ℕ)). Spaced (b ∷ bs) (in_first b vs)) (sym c.found) (
      c.rest,
      record {
        gap = [];
        is = ap (λ (r : List ℕ). b ∷ r) c.is;
        blank = refl;
        word_is = c.fits;
        ends = c.ends;
      },
      c.more,
    )

cut_as : (T U : List ℕ → Type 0) (bs : List ℕ) (ws : List (List ℕ)) → ((front : List ℕ) → T front → U front)
    → Cut T bs ws → Cut U bs ws
cut_as T U bs ws step c = record { front = c.front; rest = c.rest; others = c.others; is = c.is; found = c.found; fits = step c.front c.fits; ends = c.ends; more = c.more }

-- from the place after a byte to the place before it
back_between : (b : ℕ) (q : Place) (bs : List ℕ) (ws : List (List ℕ)) (t u : Bool) → is_blank b ≡ t → eqb b 34 ≡ u
    → cond t (Some Between) (cond u (Some Quoted) (Some Plain)) ≡ Some q → Means q bs ws
    → Spaced (b ∷ bs) (with_byte Between q b ws)
back_between b Between bs ws true u blank quote e h = spaced_blank b bs ws blank h
back_between b Between bs ws false true blank quote e h = absurd cc
back_between b Between bs ws false false blank quote e h = absurd cc
back_between b Quoted bs ws true u blank quote e h = absurd cc
back_between b Quoted bs ws false true blank quote e h = spaced_word b bs ws (cut_as Closes _ bs ws (λ front c. inl (record {
  inner = c.inner;
  is = rw (eqb-true b 34 quote) (ap (λ (r : List ℕ). 34 ∷ r) c.is);
  quoted = c.quoted;
})) h)
back_between b Quoted bs ws false false blank quote e h = absurd cc
back_between b Plain bs ws true u blank quote e h = absurd cc
back_between b Plain bs ws false true blank quote e h = absurd cc
back_between b Plain bs ws false false blank quote e h = spaced_word b bs ws (cut_as (λ front. list_all is_plain_byte front ≡ true) _ bs ws (λ front all. inr (record {
  some = omega arith;
  plain = and_from (is_plain_byte b) (list_all is_plain_byte front) (rw (blank, quote) refl) all;
})) h)
back_between b Escaped bs ws true u blank quote e h = absurd cc
back_between b Escaped bs ws false true blank quote e h = absurd cc
back_between b Escaped bs ws false false blank quote e h = absurd cc
back_between b Closed bs ws true u blank quote e h = absurd cc
back_between b Closed bs ws false true blank quote e h = absurd cc
back_between b Closed bs ws false false blank quote e h = absurd cc

back_plain : (b : ℕ) (q : Place) (bs : List ℕ) (ws : List (List ℕ)) (t u : Bool) → is_blank b ≡ t → eqb b 34 ≡ u
    → cond t (Some Between) (cond u None (Some Plain)) ≡ Some q → Means q bs ws
    → Means Plain (b ∷ bs) (with_byte Plain q b ws)
back_plain b Between bs ws true u blank quote e h = cut_none _ (b ∷ bs) ws refl blank (spaced_blank b bs ws blank h)
back_plain b Between bs ws false true blank quote e h = absurd cc
back_plain b Between bs ws false false blank quote e h = absurd cc
back_plain b Plain bs ws true u blank quote e h = absurd cc
back_plain b Plain bs ws false true blank quote e h = absurd cc
back_plain b Plain bs ws false false blank quote e h = cut_more _ _ b bs ws (λ front all. and_from (is_plain_byte b) (list_all is_plain_byte front) (rw (blank, quote) refl) all) h
back_plain b Quoted bs ws true u blank quote e h = absurd cc
back_plain b Quoted bs ws false true blank quote e h = absurd cc
back_plain b Quoted bs ws false false blank quote e h = absurd cc
back_plain b Escaped bs ws true u blank quote e h = absurd cc
back_plain b Escaped bs ws false true blank quote e h = absurd cc
back_plain b Escaped bs ws false false blank quote e h = absurd cc
back_plain b Closed bs ws true u blank quote e h = absurd cc
back_plain b Closed bs ws false true blank quote e h = absurd cc
back_plain b Closed bs ws false false blank quote e h = absurd cc

back_closed : (b : ℕ) (q : Place) (bs : List ℕ) (ws : List (List ℕ)) (t : Bool) → is_blank b ≡ t
    → cond t (Some Between) None ≡ Some q → Means q bs ws → Means Closed (b ∷ bs) (with_byte Closed q b ws)
back_closed b Between bs ws true blank e h = cut_none _ (b ∷ bs) ws refl blank (spaced_blank b bs ws blank h)
back_closed b Between bs ws false blank e h = absurd cc
back_closed b Plain bs ws true blank e h = absurd cc
back_closed b Plain bs ws false blank e h = absurd cc
back_closed b Quoted bs ws true blank e h = absurd cc
back_closed b Quoted bs ws false blank e h = absurd cc
back_closed b Escaped bs ws true blank e h = absurd cc
back_closed b Escaped bs ws false blank e h = absurd cc
back_closed b Closed bs ws true blank e h = absurd cc
back_closed b Closed bs ws false blank e h = absurd cc

-- a byte more in front of what is quoted
not_escaped : (t x y : Bool) → t ≡ false → y ≡ true → cond t x y ≡ true
not_escaped true x y e f = absurd cc
not_escaped false x y e f = f

quoted_more : (b : ℕ) (inner : List ℕ) → is_text_byte b ≡ true → eqb b 92 ≡ false → is_quoted inner ≡ true
    → is_quoted (b ∷ inner) ≡ true
quoted_more b [] text plain q = text
quoted_more b (c ∷ cs) text plain q =
    not_escaped (eqb b 92) (is_escape c && is_quoted cs) (is_text_byte b && is_quoted (c ∷ cs)) plain
    (and_from (is_text_byte b) (is_quoted (c ∷ cs)) text q)

text_is : (t u v : Bool) → t ≡ false → u ≡ false → v ≡ false → (not t && (not u && not v)) ≡ true
text_is t u v a b c = rw (a, b, c) refl

back_quoted : (b : ℕ) (q : Place) (bs : List ℕ) (ws : List (List ℕ)) (t u v : Bool) → nat_lt b 32 ≡ t → eqb b 34 ≡ u
    → eqb b 92 ≡ v
    → cond t None (cond u (Some Closed) (cond v (Some Escaped) (Some Quoted))) ≡ Some q → Means q bs ws
    → Means Quoted (b ∷ bs) (with_byte Quoted q b ws)
back_quoted b Closed bs ws false true v low quote slash e h = cut_more _ _ b bs ws (λ front none. record {
  inner = [];
  is = ap (λ (r : List ℕ). b ∷ r) none ∙ ap (λ (n : ℕ). n ∷ []) (eqb-true b 34 quote);
  quoted = refl;
}) h
back_quoted b Escaped bs ws false false true low quote slash e h = cut_more _ _ b bs ws (λ front x. record {
  inner = b ∷ x.byte ∷ x.closes.inner;
  is = ap (λ (r : List ℕ). b ∷ r) (x.is ∙ ap (λ (r : List ℕ). x.byte ∷ r) x.closes.is);
  quoted = rw slash (and_from (is_escape x.byte) (is_quoted x.closes.inner) x.escape x.closes.quoted);
}) h
back_quoted b Quoted bs ws false false false low quote slash e h = cut_more _ _ b bs ws (λ front c. record {
  inner = b ∷ c.inner;
  is = ap (λ (r : List ℕ). b ∷ r) c.is;
  quoted = quoted_more b c.inner (text_is (nat_lt b 32) (eqb b 34) (eqb b 92) low quote slash) slash c.quoted;
}) h
back_quoted b Between bs ws true u v low quote slash e h = absurd cc
back_quoted b Between bs ws false true v low quote slash e h = absurd cc
back_quoted b Between bs ws false false true low quote slash e h = absurd cc
back_quoted b Between bs ws false false false low quote slash e h = absurd cc
back_quoted b Plain bs ws true u v low quote slash e h = absurd cc
back_quoted b Plain bs ws false true v low quote slash e h = absurd cc
back_quoted b Plain bs ws false false true low quote slash e h = absurd cc
back_quoted b Plain bs ws false false false low quote slash e h = absurd cc
back_quoted b Quoted bs ws true u v low quote slash e h = absurd cc
back_quoted b Quoted bs ws false true v low quote slash e h = absurd cc
back_quoted b Quoted bs ws false false true low quote slash e h = absurd cc
back_quoted b Escaped bs ws true u v low quote slash e h = absurd cc
back_quoted b Escaped bs ws false true v low quote slash e h = absurd cc
back_quoted b Escaped bs ws false false false low quote slash e h = absurd cc
back_quoted b Closed bs ws true u v low quote slash e h = absurd cc
back_quoted b Closed bs ws false false true low quote slash e h = absurd cc
back_quoted b Closed bs ws false false false low quote slash e h = absurd cc

back_escaped : (b : ℕ) (q : Place) (bs : List ℕ) (ws : List (List ℕ)) (t : Bool) → is_escape b ≡ t
    → cond t (Some Quoted) None ≡ Some q → Means q bs ws → Means Escaped (b ∷ bs) (with_byte Escaped q b ws)
back_escaped b Between bs ws true escape e h = absurd cc
back_escaped b Between bs ws false escape e h = absurd cc
back_escaped b Plain bs ws true escape e h = absurd cc
back_escaped b Plain bs ws false escape e h = absurd cc
back_escaped b Quoted bs ws true escape e h = cut_more _ _ b bs ws (λ front c. record { byte = b; left = front; is = refl; escape = escape; closes = c }) h
back_escaped b Quoted bs ws false escape e h = absurd cc
back_escaped b Escaped bs ws true escape e h = absurd cc
back_escaped b Escaped bs ws false escape e h = absurd cc
back_escaped b Closed bs ws true escape e h = absurd cc
back_escaped b Closed bs ws false escape e h = absurd cc

back : (p q : Place) (b : ℕ) (bs : List ℕ) (ws : List (List ℕ)) → goes p b ≡ Some q → Means q bs ws
    → Means p (b ∷ bs) (with_byte p q b ws)
back Between q b bs ws e h = back_between b q bs ws (is_blank b) (eqb b 34) refl refl e h
back Plain q b bs ws e h = back_plain b q bs ws (is_blank b) (eqb b 34) refl refl e h
back Quoted q b bs ws e h = back_quoted b q bs ws (nat_lt b 32) (eqb b 34) (eqb b 92) refl refl refl e h
back Escaped q b bs ws e h = back_escaped b q bs ws (is_escape b) refl e h
back Closed q b bs ws e h = back_closed b q bs ws (is_blank b) refl e h

at_end : (p : Place) (ws : List (List ℕ)) → words_at_end p ≡ Some ws → Means p [] ws
at_end Between ws e = let is : [] ≡ ws = cc in subst (Spaced []) is refl
at_end Plain ws e = let is : [] ∷ [] ≡ ws = cc in subst (Means Plain []) is (cut_none _ [] [] refl refl refl)
at_end Quoted ws e = absurd cc
at_end Escaped ws e = absurd cc
at_end Closed ws e = let is : [] ∷ [] ≡ ws = cc in subst (Means Closed []) is (cut_none _ [] [] refl refl refl)

found_means : (p : Place) (bs : List ℕ) (ws : List (List ℕ)) → words_from p bs ≡ Some ws → Means p bs ws
found_means p [] ws e = at_end p ws e
found_means p (b ∷ bs) ws e = step (goes p b) refl e (λ q vs f. found_means q bs vs f)
  where
    last : (q : Place) → goes p b ≡ Some q → (o : Option (List (List ℕ))) → words_from q bs ≡ o
        → option_map (with_byte p q b) o ≡ Some ws
        → ((r : Place) (vs : List (List ℕ)) → words_from r bs ≡ Some vs → Means r bs vs) → Means p (b ∷ bs) ws
    last q at None is e rest = absurd cc
    last q at (Some vs) is e rest =
        let same : with_byte p q b vs ≡ ws = cc in subst (Means p (b ∷ bs)) same (back p q b bs vs at (rest q vs is))

    step : (o : Option Place) → goes p b ≡ o
        → option_and_then (λ q. option_map (with_byte p q b) (words_from q bs)) o ≡ Some ws
        → ((r : Place) (vs : List (List ℕ)) → words_from r bs ≡ Some vs → Means r bs vs) → Means p (b ∷ bs) ws
    step None at e rest = absurd cc
    step (Some q) at e rest = last q at (words_from q bs) refl e rest

pub words_spaced : (line : List ℕ) (ws : List (List ℕ)) → words line ≡ Some ws → Spaced line ws
words_spaced line ws e = found_means Between line ws e
