-- Texts, bytes and members as they are shown, as far as they are written.
use Rattle.std.proofs.Common.{◌≡◌, ℕ, zero, suc, ◌+◌, ◌<◌, ◌≤◌, Bool, true, false, ◌&&◌, List, [], ◌∷◌, ◌++◌, map, length, take, drop, get_or, Option, Some, unwrap_or, refl, sym, ap, ◌∙◌, ⊎_elim, nat_lt, arith, add-one, drop-cons}
use Rattle.std.specs.Prelude.{if◌then◌else◌, ◌==◌, min}
use Rattle.std.proofs.lemmas.Grind.{flat_map-append}
use Rattle.std.proofs.lemmas.Bool.{cases_lt, lt-ltb, le-ltb}
use Rattle.std.proofs.lemmas.List.{append_assoc, append-nil, length-drop, length-map, take_all}
use Rattle.std.proofs.str.Utf16.{utf16_chars-drop_all}
use Rattle.std.specs.Char.Utf16.{is_high_surrogate, is_low_surrogate, lone_unit_char, surrogate_pair_char, utf16_chars, utf16_lossy_chars}
use Rattle.std.specs.List.{flat_map, join_with_byte}
use Rattle.hex.specs.Hex.{encode_lower}
use Rattle.cf_contents.specs.Descriptions.{more_if, shown_char, shown_bytes, word_at}

-- what is left of a list gives its next item
next_item : (xs : List ℕ) (i c : ℕ) (rest : List ℕ) → drop i xs ≡ c ∷ rest
    → (take (suc i) xs ≡ take i xs ++ c ∷ []) × (drop (suc i) xs ≡ rest)
next_item [] zero c rest is = absurd cc
next_item [] (suc i) c rest is = absurd cc
next_item (x ∷ xs) zero c rest is = (cc, cc)
next_item (x ∷ xs) (suc i) c rest is = let next = next_item xs i c rest is in (ap (λ ys. x ∷ ys) next.0, next.1)

-- units are at least one character
either_some : (b : Bool) (x y : Option ℕ) (xs ys : List (Option ℕ)) → 0 < length (if b then x ∷ xs else y ∷ ys)
either_some true x y xs ys = omega arith
either_some false x y xs ys = omega arith

first_read : (u : ℕ) (us : List ℕ) → 0 < length (utf16_chars (u ∷ us))
unfolding utf16_chars
first_read u [] = omega arith
first_read u (v ∷ us) = either_some (is_high_surrogate u && is_low_surrogate v) (Some (surrogate_pair_char u v)) (lone_unit_char u) (utf16_chars us) (utf16_chars (v ∷ us))

some_left : (units : List ℕ) (at : ℕ) → at < length units → 0 < length (utf16_lossy_chars (drop at units))
some_left units at within =
    let some = first_read (get_or units at 0) (drop (suc at) units) in
    let many = length-map (utf16_chars (drop at units)) (λ o. unwrap_or o 0xFFFD) in
    omega (arith, many, ap (λ us. length (utf16_chars us)) (drop-cons units at 0 within))

none_left : (units : List ℕ) (at : ℕ) → length units ≤ at → utf16_lossy_chars (drop at units) ≡ []
none_left units at past = ap (map (λ o. unwrap_or o 0xFFFD)) (utf16_chars-drop_all units at past)

-- so many characters of a text are written after what stood there, and the units before a place are theirs
pub record Written (units before now : List ℕ) (at count : ℕ) : Type 0 where
  pub shown : now ≡ before ++ flat_map shown_char (take count (utf16_lossy_chars units))
  pub left : utf16_lossy_chars (drop at units) ≡ drop count (utf16_lossy_chars units)

pub Written-start : (units before : List ℕ) → Written units before before 0 0
Written-start units before = record { shown = sym (append-nil before); left = refl }

-- one character more
pub Written-next : (units before now more : List ℕ) (at next count c : ℕ) → Written units before now at count
    → utf16_lossy_chars (drop at units) ≡ c ∷ utf16_lossy_chars (drop next units) → more ≡ now ++ shown_char c
    → Written units before more next (count + 1)
Written-next units before now more at next count c written first is =
    let chars = utf16_lossy_chars units in
    let item = next_item chars count c (utf16_lossy_chars (drop next units)) (sym written.left ∙ first) in
    let shown : flat_map shown_char (take (suc count) chars) ≡ flat_map shown_char (take count chars) ++ shown_char c =
    ap (flat_map shown_char) item.0 ∙ flat_map-append shown_char (take count chars) (c ∷ [])
    ∙ ap (λ xs. flat_map shown_char (take count chars) ++ xs) (append-nil (shown_char c)) in
    rw add-one
    record {
      shown = is ∙ ap (λ xs. xs ++ shown_char c) written.shown ∙ append_assoc before _ (shown_char c) ∙ ap (λ xs. before ++ xs) (sym shown);
      left = sym item.1;
    }

-- all of the text is written, or 32 characters are
pub record Ended (units before now : List ℕ) (at : ℕ) : Type 0 where
  pub written : now ≡ before ++ flat_map shown_char (take 32 (utf16_lossy_chars units))
  pub end : nat_lt at (length units) ≡ nat_lt 32 (length (utf16_lossy_chars units))

pub Ended-whole : (units before now : List ℕ) (at count : ℕ) → Written units before now at count → count ≤ 32
    → length units ≤ at → Ended units before now at
Ended-whole units before now at count written few past =
    let chars = utf16_lossy_chars units in
    let none : drop count chars ≡ [] = sym written.left ∙ none_left units at past in
    let most : length chars ≤ count = omega (arith, length-drop count chars, ap length none) in
    let same : take count chars ≡ take 32 chars = take_all count chars most ∙ sym (take_all 32 chars (omega arith)) in
    record {
      written = written.shown ∙ ap (λ cs. before ++ flat_map shown_char cs) same;
      end = le-ltb at (length units) past ∙ sym (le-ltb 32 (length chars) (omega arith));
    }

pub Ended-full : (units before now : List ℕ) (at count : ℕ) → Written units before now at count → count ≡ 32
    → Ended units before now at
Ended-full units before now at count written full =
    let chars = utf16_lossy_chars units in
    let left : utf16_lossy_chars (drop at units) ≡ drop 32 chars = written.left ∙ ap (λ n. drop n chars) full in
    record {
      written = written.shown ∙ ap (λ n. before ++ flat_map shown_char (take n chars)) full;
      end = ⊎_elim
          (λ (within : at < length units).
          let some = some_left units at within in
          lt-ltb at (length units) within ∙ sym (lt-ltb 32 (length chars) (omega (arith, length-drop 32 chars, ap length left))))
          (λ (past : length units ≤ at).
          le-ltb at (length units) past ∙ sym (le-ltb 32 (length chars) (omega (arith, length-drop 32 chars, ap length left, ap length (none_left units at past)))))
          (cases_lt at (length units));
    }

-- bytes that are there are shown by digits
pub shown_some : (bytes : List ℕ) (count : ℕ) → (length bytes == 0) ≡ false → count ≡ min (length bytes) 32
    → shown_bytes bytes ≡ encode_lower (take count bytes) ++ more_if (nat_lt 32 (length bytes))
shown_some bytes count some is =
    let taken : take 32 bytes ≡ take count bytes = ⊎_elim
    (λ (few : length bytes < 32). take_all 32 bytes (omega arith) ∙ sym (take_all count bytes (omega arith)))
    (λ (many : 32 ≤ length bytes). ap (λ n. take n bytes) {x = 32} {y = count} (omega arith))
    (cases_lt (length bytes) 32) in
    rw (some, taken)

-- one member more
join_last : (a : List ℕ) (words : List (List ℕ)) (p : ℕ) → p < length words
    → join_with_byte 32 (take (suc (suc p)) (a ∷ words))
    ≡ join_with_byte 32 (take (suc p) (a ∷ words)) ++ 32 ∷ word_at words p
join_last a [] p within = absurd (omega arith)
join_last a (b ∷ words) zero within = refl
join_last a (b ∷ words) (suc p) within =
    ap (λ (xs : List ℕ). a ++ 32 ∷ xs) (join_last b words p (omega arith))
    ∙ sym (append_assoc a (32 ∷ join_with_byte 32 (take (suc p) (b ∷ words))) (32 ∷ word_at words p))

pub join_first : (words : List (List ℕ)) (p : ℕ) (before out now : List ℕ) → p < length words → p ≤ 0
    → out ≡ before ++ join_with_byte 32 (take p words) → now ≡ out ++ word_at words p
    → now ≡ before ++ join_with_byte 32 (take (p + 1) words)
join_first [] p before out now within first old new = absurd (omega arith)
join_first (a ∷ words) zero before out now within first old new = new ∙ ap (λ (xs : List ℕ). xs ++ a) (old ∙ append-nil before)
join_first (a ∷ words) (suc p) before out now within first old new = absurd (omega arith)

pub join_next : (words : List (List ℕ)) (p : ℕ) (before out now : List ℕ) → p < length words → 0 < p
    → out ≡ before ++ join_with_byte 32 (take p words) → now ≡ (out ++ 32 ∷ []) ++ word_at words p
    → now ≡ before ++ join_with_byte 32 (take (p + 1) words)
join_next [] p before out now within more old new = absurd (omega arith)
join_next (a ∷ words) zero before out now within more old new = absurd (omega arith)
join_next (a ∷ words) (suc p) before out now within more old new =
    let joined = join_with_byte 32 (take (suc p) (a ∷ words)) in
    let word = word_at words p in
    rw add-one
    (new ∙ append_assoc out (32 ∷ []) word ∙ ap (λ (xs : List ℕ). xs ++ 32 ∷ word) old
    ∙ append_assoc before joined (32 ∷ word) ∙ ap (λ (xs : List ℕ). before ++ xs) (sym (join_last a words p (omega arith))))
