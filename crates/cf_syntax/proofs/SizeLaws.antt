-- How long lines are and how many words they have, and how the names of handlers grow as a text is read.
use Rattle.std.proofs.Common.{◌≡◌, ℕ, zero, suc, ◌+◌, ◌-◌, ◌<◌, ◌≤◌, Bool, true, false, cond, not, eqb, ltb, List, [], ◌∷◌, ◌++◌, length, map, take, Option, Some, None, Result, Ok, Err, refl, ap, sym, ◌∙◌, arith, subst, append_assoc, append-nil}
use Rattle.std.specs.Prelude.{◌||◌, slice_index, option_and_then}
use Rattle.std.specs.Option.{option_map}
use Rattle.std.specs.List.{list_any, position_or_len}
use Rattle.std.specs.Str.{bytes_eq}
use Rattle.std.proofs.lemmas.Bool.{ltb-true}
use Rattle.std.proofs.lemmas.List.{length-append}
use Rattle.std.proofs.lemmas.Slice.Eq.{bytes_eq-Decides}
use Rattle.cf_syntax.specs.declared.place.Place.{Place}
use Rattle.cf_syntax.specs.declared.place.Place.TheVariants.{Between, Plain, Quoted, Escaped, Closed}
use Rattle.cf_syntax.specs.declared.form.NameTable.{NameTable}
use Rattle.cf_syntax.specs.declared.form.NameTable.TheVariants as tables
use Rattle.cf_syntax.specs.declared.form.Operand.{Operand}
use Rattle.cf_syntax.specs.declared.refusal.Reason.{Reason}
use Rattle.cf_syntax.specs.Lines.{in_first, pieces, without_return}
use Rattle.cf_syntax.specs.Words.{goes, past_blank, with_byte, words_from}
use Rattle.cf_syntax.specs.FormWords.{Names, With, names_in, limit_of, with_names, with_name, numbered, table_of, numbered_word, numbers_of}
use Rattle.cf_syntax.specs.FormStatements.{Numbers}
use Rattle.cf_syntax.proofs.RefusalLaws.{bind_ok}

-- ---- lines and words are no more than bytes

abbrev pub EachWithin : ℕ → List (List ℕ) → Type 0
EachWithin n [] = Unit {0}
EachWithin n (l ∷ ls) = (length l ≤ n) × EachWithin n ls

pub within_more : (m n : ℕ) (ls : List (List ℕ)) → m ≤ n → EachWithin m ls → EachWithin n ls
within_more m n [] le h = tt
within_more m n (l ∷ ls) le h = (omega (arith, le, h.0), within_more m n ls le h.1)

piece_within : (t : Bool) (b n : ℕ) (ps : List (List ℕ)) → EachWithin n ps
    → EachWithin (suc n) (cond t ([] ∷ ps) (in_first b ps))
piece_within true b n ps h = (omega arith, within_more n (suc n) ps (omega arith) h)
piece_within false b n [] h = (omega arith, tt)
piece_within false b n (p ∷ ps) h = (omega (arith, h.0), within_more n (suc n) ps (omega arith) h.1)

pub pieces_within : (bs : List ℕ) → EachWithin (length bs) (pieces bs)
pieces_within [] = tt
pieces_within (b ∷ bs) = piece_within (eqb b 10) b (length bs) (pieces bs) (pieces_within bs)

piece_count : (t : Bool) (b n : ℕ) (ps : List (List ℕ)) → length ps ≤ n
    → length (cond t ([] ∷ ps) (in_first b ps)) ≤ suc n
piece_count true b n ps h = omega (arith, h)
piece_count false b n [] h = omega arith
piece_count false b n (p ∷ ps) h = omega (arith, h)

pub pieces_count : (bs : List ℕ) → length (pieces bs) ≤ length bs
pieces_count [] = omega arith
pieces_count (b ∷ bs) = piece_count (eqb b 10) b (length bs) (pieces bs) (pieces_count bs)

take_count : (n : ℕ) (l : List ℕ) → length (take n l) ≤ length l
take_count zero l = omega arith
take_count (suc n) [] = omega arith
take_count (suc n) (b ∷ l) = omega (arith, take_count n l)

return_count : (t : Bool) (l : List ℕ) → length (cond t (take (length l - 1) l) l) ≤ length l
return_count true l = take_count (length l - 1) l
return_count false l = omega arith

pub lines_within : (n : ℕ) (ps : List (List ℕ)) → EachWithin n ps → EachWithin n (map without_return ps)
lines_within n [] h = tt
lines_within n (p ∷ ps) h =
    (omega (arith, h.0, return_count (eqb (slice_index p (length p - 1)) 13) p), lines_within n ps h.1)

abbrev pub CountWithin : ℕ → Option (List (List ℕ)) → Type 0
CountWithin n None = Unit {0}
CountWithin n (Some ws) = length ws ≤ n

first_count : (b : ℕ) (ws : List (List ℕ)) → length (in_first b ws) ≤ suc (length ws)
first_count b [] = omega arith
first_count b (w ∷ ws) = omega arith

blank_count : (p : Place) (ws : List (List ℕ)) → length (past_blank p ws) ≤ suc (length ws)
blank_count Between ws = omega arith
blank_count Plain ws = omega arith
blank_count Quoted ws = omega arith
blank_count Escaped ws = omega arith
blank_count Closed ws = omega arith

byte_count : (p q : Place) (b n : ℕ) (ws : List (List ℕ)) → length ws ≤ n → length (with_byte p q b ws) ≤ suc n
byte_count p Between b n ws h = omega (arith, h, blank_count p ws)
byte_count p Plain b n ws h = omega (arith, h, first_count b ws)
byte_count p Quoted b n ws h = omega (arith, h, first_count b ws)
byte_count p Escaped b n ws h = omega (arith, h, first_count b ws)
byte_count p Closed b n ws h = omega (arith, h, first_count b ws)

bytes_count : (p q : Place) (b n : ℕ) (o : Option (List (List ℕ))) → CountWithin n o
    → CountWithin (suc n) (option_map (with_byte p q b) o)
bytes_count p q b n None h = tt
bytes_count p q b n (Some ws) h = byte_count p q b n ws h

went_count : (p : Place) (b : ℕ) (bs : List ℕ) (o : Option Place)
    → ((q : Place) → CountWithin (suc (length bs)) (words_from q bs))
    → CountWithin (suc (suc (length bs))) (option_and_then (λ q. option_map (with_byte p q b) (words_from q bs)) o)
went_count p b bs None h = tt
went_count p b bs (Some q) h = bytes_count p q b (suc (length bs)) (words_from q bs) (h q)

pub words_count : (p : Place) (bs : List ℕ) → CountWithin (suc (length bs)) (words_from p bs)
words_count Between [] = omega arith
words_count Plain [] = omega arith
words_count Quoted [] = tt
words_count Escaped [] = tt
words_count Closed [] = omega arith
words_count p (b ∷ bs) = went_count p b bs (goes p b) (λ q. words_count q bs)

-- ---- names of handlers

-- names to which others were added, at most 1,024 if they were so before
pub record Grown (a b : List (List ℕ)) : Type 0 where
  pub more : List (List ℕ)
  pub is : b ≡ a ++ more
  pub few : length a ≤ 1024 → length b ≤ 1024

pub grown_same : (a : List (List ℕ)) → Grown a a
grown_same a = record { more = []; is = sym (append-nil a); few = λ h. h }

grown_then : (a b c : List (List ℕ)) → Grown a b → Grown b c → Grown a c
grown_then a b c g h = record {
  more = g.more ++ h.more;
  is = h.is ∙ ap (λ (l : List (List ℕ)). l ++ h.more) g.is ∙ append_assoc a g.more h.more;
  few = λ le. h.few (g.few le);
}

none_before : (t : Bool) (n m : ℕ) (rest : Bool) → (rest ≡ false → n ≡ m) → (t || rest) ≡ false
    → cond (not t) (1 + n) 0 ≡ suc m
none_before true n m rest h e = absurd cc
none_before false n m rest h e = omega (arith, h e)

none_place : (w : List ℕ) (hs : List (List ℕ)) → list_any (bytes_eq w) hs ≡ false
    → position_or_len (bytes_eq w) hs ≡ length hs
none_place w [] e = refl
none_place w (x ∷ hs) e =
    none_before (bytes_eq w x) (position_or_len (bytes_eq w) hs) (length hs) (list_any (bytes_eq w) hs) (none_place w hs) e

named_by : (t : Bool) (w : List ℕ) (hs : List (List ℕ)) → list_any (bytes_eq w) hs ≡ t
    → position_or_len (bytes_eq w) hs < 1024 → Grown hs (cond t hs (hs ++ w ∷ []))
named_by true w hs e lt = grown_same hs
named_by false w hs e lt = record {
  more = w ∷ [];
  is = refl;
  few = λ h. omega (arith, length-append hs (w ∷ []), none_place w hs e, lt);
}

named_grown : (w : List ℕ) (hs : List (List ℕ)) → position_or_len (bytes_eq w) hs < 1024 → Grown hs (with_name hs w)
named_grown w hs lt = named_by (list_any (bytes_eq w) hs) w hs refl lt

-- a test that had to pass
pub passed : {A : Type 0} (t : Bool) (x y : A) (reason : Reason) → cond t (Ok x) (Err reason) ≡ Ok y
    → (t ≡ true) × (x ≡ y)
passed true x y reason e = (refl, cc)
passed false x y reason e = absurd cc

handlers_grown : (table : NameTable) (w : List ℕ) (names : Names)
    → position_or_len (bytes_eq w) (names_in table names) < limit_of table
    → Grown names.handlers (with_names table (with_name (names_in table names) w) names).handlers
handlers_grown tables.Variables w names lt = grown_same names.handlers
handlers_grown tables.Handlers w names lt = named_grown w names.handlers lt
handlers_grown tables.Modes w names lt = grown_same names.handlers
handlers_grown tables.Notices w names lt = grown_same names.handlers

pub numbered_grown : (table : NameTable) (w : List ℕ) (names : Names) (m : With ℕ) → numbered table w names ≡ Ok m
    → Grown names.handlers m.names.handlers
numbered_grown table w names m e =
    let n = position_or_len (bytes_eq w) (names_in table names) in
    let p = passed (ltb n (limit_of table)) _ m _ e in
    subst (λ (x : With ℕ). Grown names.handlers x.names.handlers) p.1
    (handlers_grown table w names (ltb-true n (limit_of table) p.0))

abbrev pub read_as : {A : Type 0} → A → Result A Reason
read_as x = Ok x

pub ok_is : {A : Type 0} (x y : A) → read_as x ≡ read_as y → x ≡ y
ok_is x y e = cc

word_grown : (table : Option NameTable) (w : List ℕ) (x y : With Numbers) → numbered_word table w x ≡ Ok y
    → Grown x.names.handlers y.names.handlers
word_grown None w x y e = subst (λ (z : With Numbers). Grown x.names.handlers z.names.handlers) (ok_is x y e) (grown_same x.names.handlers)
word_grown (Some table) w x y e =
    let a = bind_ok (numbered table w x.names) _ y e in
    subst (λ (z : With Numbers). Grown x.names.handlers z.names.handlers) (ok_is _ y a.2)
    (numbered_grown table w x.names a.0 a.1)

pub numbers_grown : (os : List Operand) (ws : List (List ℕ)) (x y : With Numbers) → numbers_of os ws x ≡ Ok y
    → Grown x.names.handlers y.names.handlers
numbers_grown [] ws x y e = subst (λ (z : With Numbers). Grown x.names.handlers z.names.handlers) (ok_is x y e) (grown_same x.names.handlers)
numbers_grown (o ∷ os) [] x y e = subst (λ (z : With Numbers). Grown x.names.handlers z.names.handlers) (ok_is x y e) (grown_same x.names.handlers)
numbers_grown (o ∷ os) (w ∷ ws) x y e =
    let a = bind_ok (numbered_word (table_of o w) w x) _ y e in
    grown_then x.names.handlers a.0.names.handlers y.names.handlers (word_grown (table_of o w) w x a.0 a.1) (numbers_grown os ws a.0 y a.2)

-- ---- counts of names

abbrev pub counted : (List ℕ → Bool) → List (List ℕ) → ℕ
counted p [] = 0
counted p (x ∷ xs) = cond (p x) (suc (counted p xs)) (counted p xs)

-- among some names
abbrev pub member : List (List ℕ) → List ℕ → Bool
member names w = list_any (bytes_eq w) names

-- as many names as are found among others
abbrev pub Named : (names others : List (List ℕ)) → Type 0
Named names others = length names ≤ counted (member names) others

count_step : (t : Bool) (m n : ℕ) → m ≤ n → cond t (suc m) m ≤ suc n
count_step true m n h = omega (arith, h)
count_step false m n h = omega (arith, h)

pub counted_few : (p : List ℕ → Bool) (xs : List (List ℕ)) → counted p xs ≤ length xs
counted_few p [] = omega arith
counted_few p (x ∷ xs) = count_step (p x) (counted p xs) (length xs) (counted_few p xs)

count_on : (t : Bool) (m n : ℕ) → m ≤ n → cond t (suc m) m ≤ cond t (suc n) n
count_on true m n h = omega (arith, h)
count_on false m n h = h

counted_on : (p : List ℕ → Bool) (xs ys : List (List ℕ)) → counted p xs ≤ counted p (xs ++ ys)
counted_on p [] ys = omega arith
counted_on p (x ∷ xs) ys = count_on (p x) (counted p xs) (counted p (xs ++ ys)) (counted_on p xs ys)

pub named_on : (names hs gs : List (List ℕ)) → Grown hs gs → Named names hs → Named names gs
named_on names hs gs g h =
    subst (λ (l : List (List ℕ)). Named names l) (sym g.is) (omega (arith, h, counted_on (member names) hs g.more))

-- a name more, which is there once it was not
member_push : (names : List (List ℕ)) (w x : List ℕ) → member (names ++ w ∷ []) x ≡ (member names x || bytes_eq x w)
member_push [] w x = or_false (bytes_eq x w)
  where
    or_false : (t : Bool) → (t || false) ≡ t
    or_false true = refl
    or_false false = refl
member_push (n ∷ names) w x = ap (λ (t : Bool). bytes_eq x n || t) (member_push names w x) ∙ sym (or_assoc (bytes_eq x n) (member names x) (bytes_eq x w))
  where
    or_assoc : (a b c : Bool) → ((a || b) || c) ≡ (a || (b || c))
    or_assoc true b c = refl
    or_assoc false b c = refl

same_counts : (p q : List ℕ → Bool) (xs : List (List ℕ)) → ((x : List ℕ) → p x ≡ q x) → counted p xs ≡ counted q xs
same_counts p q [] e = refl
same_counts p q (x ∷ xs) e = rw (e x, same_counts p q xs e) refl

either_step : (a b : Bool) (m n : ℕ) → m ≤ n → cond a (suc m) m ≤ cond (a || b) (suc n) n
either_step true b m n h = omega (arith, h)
either_step false true m n h = omega (arith, h)
either_step false false m n h = h

counted_either : (p q : List ℕ → Bool) (xs : List (List ℕ)) → counted p xs ≤ counted (λ x. p x || q x) xs
counted_either p q [] = omega arith
counted_either p q (x ∷ xs) = either_step (p x) (q x) (counted p xs) (counted (λ y. p y || q y) xs) (counted_either p q xs)

new_step : (a b : Bool) (m n : ℕ) → (b ≡ true → a ≡ false) → m ≤ n → (b ≡ false → suc m ≤ n)
    → suc (cond a (suc m) m) ≤ cond (a || b) (suc n) n
new_step true true m n h le lt = absurd (let e : true ≡ false = h refl in cc)
new_step true false m n h le lt = omega (arith, lt refl)
new_step false true m n h le lt = omega (arith, le)
new_step false false m n h le lt = lt refl

counted_new : (p : List ℕ → Bool) (w : List ℕ) (xs : List (List ℕ)) → p w ≡ false → member xs w ≡ true
    → suc (counted p xs) ≤ counted (λ x. p x || bytes_eq x w) xs
counted_new p w [] none there = absurd cc
counted_new p w (x ∷ xs) none there =
    new_step (p x) (bytes_eq x w) (counted p xs) (counted (λ y. p y || bytes_eq y w) xs)
    (λ e. subst (λ (v : List ℕ). p v ≡ false) (sym ((bytes_eq-Decides x w).0 e)) none)
    (counted_either p (λ y. bytes_eq y w) xs)
    (λ e. counted_new p w xs none (later (bytes_eq w x) (flips e) there))
  where
    later : (t : Bool) → t ≡ false → (t || member xs w) ≡ true → member xs w ≡ true
    later true e h = absurd cc
    later false e h = h

    flipped : (t : Bool) → (t ≡ true → ⊥) → t ≡ false
    flipped true h = absurd (h refl)
    flipped false h = refl

    flips : bytes_eq x w ≡ false → bytes_eq w x ≡ false
    flips e = flipped (bytes_eq w x) (λ f. let g = (bytes_eq-Decides x w).1 (sym ((bytes_eq-Decides w x).0 f)) in absurd cc)

pub named_push : (names : List (List ℕ)) (w : List ℕ) (hs : List (List ℕ)) → Named names hs → member names w ≡ false
    → member hs w ≡ true → Named (names ++ w ∷ []) hs
named_push names w hs h none there =
    omega (arith, length-append names (w ∷ []), h, counted_new (member names) w hs none there, same_counts (member (names ++ w ∷ [])) (λ x. member names x || bytes_eq x w) hs (member_push names w))

-- a name that was numbered is there
pub with_member : (w : List ℕ) (hs : List (List ℕ)) → member (with_name hs w) w ≡ true
with_member w hs = by (member hs w) refl
  where
    or_true : (t : Bool) → (t || true) ≡ true
    or_true true = refl
    or_true false = refl

    by : (t : Bool) → member hs w ≡ t → member (cond t hs (hs ++ w ∷ [])) w ≡ true
    by true e = e
    by false e = member_push hs w w ∙ ap (λ (t : Bool). member hs w || t) ((bytes_eq-Decides w w).1 refl) ∙ or_true (member hs w)
