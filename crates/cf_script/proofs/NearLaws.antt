-- The words of a line that are found between blanks, and where a look at 32 bytes stops.
use Rattle.std.proofs.Common.{◌≡◌, ℕ, suc, ◌+◌, ◌-◌, ◌<◌, ◌≤◌, Bool, true, false, cond, eqb, ltb, List, [], ◌∷◌, ◌++◌, length, map, take, drop, get_or, Option, Some, None, inl, inr, refl, ap, sym, ◌∙◌, arith, subst}
use Rattle.std.specs.Prelude.{position, option_and_then, IfSome, IsTrue, is_some}
use Rattle.std.specs.Int.{bit_at}
use Rattle.std.specs.Option.{option_map}
use Rattle.std.proofs.lemmas.Bool.{cases_Bool, cases_lt, eqb-true, ltb-false}
use Rattle.std.proofs.lemmas.List.{append_assoc, get_or-drop, get_or-map, get_or-take, get_or_past, length-drop, length-map, length-take-le, take_more}
use Rattle.std.proofs.lemmas.Simd.{bit_mask_l}
use Rattle.std.proofs.Math.Seq.{take-add}
use Rattle.std.specs.Simd.Lanes.{mask_l}
use Rattle.memchr.specs.Find.{IsFirstByte}
use Rattle.cf_syntax.specs.declared.place.Place.{Place}
use Rattle.cf_syntax.specs.declared.place.Place.TheVariants.{Between, Plain}
use Rattle.cf_syntax.specs.Lines.{in_first, without_return}
use Rattle.cf_syntax.specs.Words.{goes, with_byte, words_from, words}
use Rattle.cf_syntax.proofs.WordLaws.{behind, blank_first, same_map}
use Rattle.cf_script.specs.Whole.{whole}
use Rattle.cf_script.proofs.FeedLaws.{first_is_position}

-- ---- bytes above a quote

apart : (b c : ℕ) → c < b → eqb b c ≡ false
apart b c lt = elim (cases_Bool (eqb b c)) [ inl t ↦ absurd (omega (arith, eqb-true b c t)) | inr f ↦ f ]

abbrev pub AreAbove : List ℕ → Type 0
AreAbove [] = Unit {0}
AreAbove (b ∷ bs) = (34 < b) × AreAbove bs

above_from : (bs : List ℕ) → ((k : ℕ) → k < length bs → 34 < get_or bs k 0) → AreAbove bs
above_from [] h = tt
above_from (b ∷ bs) h = (h 0 (omega arith), above_from bs (λ k lt. h (suc k) (omega (arith, lt))))

above_goes : (b : ℕ) → 34 < b → goes Plain b ≡ Some Plain
above_goes b gt = rw (apart b 32 (omega (arith, gt)), apart b 9 (omega (arith, gt)), apart b 34 gt) refl

above_begins : (b : ℕ) → 34 < b → goes Between b ≡ Some Plain
above_begins b gt = rw (apart b 32 (omega (arith, gt)), apart b 9 (omega (arith, gt)), apart b 34 gt) refl

above_in : (b : ℕ) (bs : List ℕ) → 34 < b → words_from Plain (b ∷ bs) ≡ option_map (in_first b) (words_from Plain bs)
above_in b bs gt =
    ap (λ (o : Option Place). option_and_then (λ q. option_map (with_byte Plain q b) (words_from q bs)) o) (above_goes b gt)

above_first : (b : ℕ) (bs : List ℕ) → 34 < b → words (b ∷ bs) ≡ option_map (in_first b) (words_from Plain bs)
above_first b bs gt =
    ap (λ (o : Option Place). option_and_then (λ q. option_map (with_byte Between q b) (words_from q bs)) o) (above_begins b gt)

in_behind : (b : ℕ) (w : List ℕ) (o : Option (List (List ℕ)))
    → option_map (in_first b) (behind w o) ≡ behind (b ∷ w) o
in_behind b w None = refl
in_behind b w (Some ws) = refl

above_blank : (w t : List ℕ) → AreAbove w → words_from Plain (w ++ 32 ∷ t) ≡ behind w (words t)
above_blank [] t h = refl
above_blank (b ∷ w) t h =
    above_in b (w ++ 32 ∷ t) h.0 ∙ ap (option_map (in_first b)) (above_blank w t h.1) ∙ in_behind b w (words t)

above_end : (w : List ℕ) → AreAbove w → words_from Plain w ≡ Some (w ∷ [])
above_end [] h = refl
above_end (b ∷ w) h = above_in b w h.0 ∙ ap (option_map (in_first b)) (above_end w h.1)

-- before a blank, and at the end
words_blank : (w t : List ℕ) → AreAbove w → words (w ++ 32 ∷ t) ≡ option_map (λ ws. whole w ++ ws) (words t)
words_blank [] t h = blank_first 32 t refl ∙ sym (same_map (words t))
words_blank (b ∷ w) t h =
    above_first b (w ++ 32 ∷ t) h.0 ∙ ap (option_map (in_first b)) (above_blank w t h.1) ∙ in_behind b w (words t)

words_last : (w : List ℕ) → AreAbove w → words w ≡ Some (whole w)
words_last [] h = refl
words_last (b ∷ w) h = above_first b w h.0 ∙ ap (option_map (in_first b)) (above_end w h.1)

-- ---- the words so far

-- the words of the first bytes, which end in a blank, as far as a look at 32 bytes goes
pub record SoFar (bytes : List ℕ) (start : ℕ) (found : List (List ℕ)) : Type 0 where
  pub within : start ≤ 32
  pub long : 32 ≤ length bytes
  pub seen : (k : ℕ) → k < start → 32 ≤ get_or bytes k 0
  pub words : (t : List ℕ) → words (take start bytes ++ t) ≡ option_map (λ ws. found ++ ws) (words t)

pub so_far_none : (bytes : List ℕ) (found : List (List ℕ)) → 32 ≤ length bytes → found ≡ [] → SoFar bytes 0 found
so_far_none bytes found long none = rw none (record {
  within = omega arith;
  long = long;
  seen = λ k lt. absurd (omega (arith, lt));
  words = λ t. sym (same_map (words t));
})

-- the bytes between two places
abbrev pub between : List ℕ → ℕ → ℕ → List ℕ
between bytes start stop = take (stop - start) (drop start bytes)

-- no stop stands between these places
abbrev pub IsClear : List ℕ → ℕ → ℕ → Type 0
IsClear bytes start stop = (k : ℕ) → start ≤ k → k < stop → 34 < get_or bytes k 0

clear_above : (bytes : List ℕ) (start stop : ℕ) → start ≤ stop → stop ≤ length bytes → IsClear bytes start stop
    → AreAbove (between bytes start stop)
clear_above bytes start stop le within clear =
    let long : length (between bytes start stop) ≡ stop - start = length-take-le (stop - start) (drop start bytes) (omega (arith, length-drop start bytes)) in
    above_from (between bytes start stop) (λ k lt.
    let below : k < stop - start = omega (arith, lt, long) in
    let at : get_or (between bytes start stop) k 0 ≡ get_or bytes (start + k) 0 = get_or-take (stop - start) (drop start bytes) k 0 below ∙ get_or-drop start bytes k 0 in
    subst (λ (b : ℕ). 34 < b) (sym at) (clear (start + k) (omega arith) (omega (arith, below))))

-- all that was seen so far has no LF and no CR
all_seen : (bytes : List ℕ) (start stop : ℕ) → ((k : ℕ) → k < start → 32 ≤ get_or bytes k 0)
    → IsClear bytes start stop → (k : ℕ) → k < stop → 32 ≤ get_or bytes k 0
all_seen bytes start stop seen clear k lt = elim (cases_lt k start) [ inl a ↦ seen k a | inr b ↦ omega (arith, clear k b lt) ]

both_found : (found more : List (List ℕ)) (o : Option (List (List ℕ)))
    → option_map (λ ws. found ++ ws) (option_map (λ ws. more ++ ws) o) ≡ option_map (λ ws. (found ++ more) ++ ws) o
both_found found more None = refl
both_found found more (Some ws) = ap (λ (x : List (List ℕ)). Some x) (sym (append_assoc found more ws))

taken : (bytes : List ℕ) (start stop : ℕ) → start ≤ stop → take stop bytes ≡ take start bytes ++ between bytes start stop
taken bytes start stop le =
    let e : stop ≡ start + (stop - start) = omega (arith, le) in
    ap (λ (n : ℕ). take n bytes) e ∙ take-add start (stop - start) bytes

-- a blank ends a word, if there is one
pub goes_past : (bytes : List ℕ) (start stop : ℕ) (found more : List (List ℕ)) → SoFar bytes start found
    → start ≤ stop → stop < 32 → IsClear bytes start stop → get_or bytes stop 0 ≡ 32
    → more ≡ found ++ whole (between bytes start stop)
    → SoFar bytes (stop + 1) more
goes_past bytes start stop found more so_far le lt clear blank is =
    let w = between bytes start stop in
    let high : stop < length bytes = omega (arith, lt, so_far.long) in
    let above : AreAbove w = clear_above bytes start stop le (omega (arith, high)) clear in
    rw is (record {
      within = omega (arith, lt);
      long = so_far.long;
      seen = λ k below. elim (cases_lt k stop) [
        | inl a ↦ all_seen bytes start stop so_far.seen clear k a
        | inr b ↦ (let same : k ≡ stop = omega (arith, b, below) in omega (arith, ap (λ (n : ℕ). get_or bytes n 0) same, blank))
      ];
      words = λ t.
          let front : take (stop + 1) bytes ≡ (take start bytes ++ w) ++ 32 ∷ [] = take_more bytes stop 0 high ∙ ap (λ (b : ℕ). take stop bytes ++ b ∷ []) blank ∙ ap (λ (xs : List ℕ). xs ++ 32 ∷ []) (taken bytes start stop le) in
          ap (λ (xs : List ℕ). words (xs ++ t)) front
          ∙ ap words (append_assoc (take start bytes ++ w) (32 ∷ []) t ∙ append_assoc (take start bytes) w (32 ∷ t))
          ∙ so_far.words (w ++ 32 ∷ t) ∙ ap (option_map (λ ws. found ++ ws)) (words_blank w t above) ∙ both_found found (whole w) (words t);
    })

-- ---- the end of the line

no_return : (piece : List ℕ) → ((k : ℕ) → k < length piece → 32 ≤ get_or piece k 0) → without_return piece ≡ piece
no_return [] h = refl
no_return (b ∷ bs) h =
    let high : 32 ≤ get_or (b ∷ bs) (length (b ∷ bs) - 1) 0 = h (length (b ∷ bs) - 1) (omega arith) in
    rw (apart (get_or (b ∷ bs) (length (b ∷ bs) - 1) 0) 13 (omega (arith, high))) refl

-- the first LF, and the words before it
pub ends_there : (bytes : List ℕ) (start stop : ℕ) (found more : List (List ℕ)) → SoFar bytes start found
    → start ≤ stop → stop < 32 → IsClear bytes start stop → get_or bytes stop 0 ≡ 10
    → more ≡ found ++ whole (between bytes start stop)
    → (position (λ b. eqb b 10) bytes ≡ Some stop) × (words (without_return (take stop bytes)) ≡ Some more)
ends_there bytes start stop found more so_far le lt clear feed is =
    let w = between bytes start stop in
    let high : stop < length bytes = omega (arith, lt, so_far.long) in
    let above : AreAbove w = clear_above bytes start stop le (omega (arith, high)) clear in
    let seen = all_seen bytes start stop so_far.seen clear in
    let long : length (take stop bytes) ≡ stop = length-take-le stop bytes (omega (arith, high)) in
    let first : IsFirstByte (λ b. eqb b 10) bytes (Some stop) = (
      record {
        low = omega arith;
        high = high;
        before = λ k ge below e. omega (arith, seen k below, eqb-true (get_or bytes k 0) 10 e);
      },
      rw feed refl,
    ) in
    let same : without_return (take stop bytes) ≡ take stop bytes = no_return (take stop bytes) (λ k below.
    let within : k < stop = omega (arith, below, long) in
    subst (λ (b : ℕ). 32 ≤ b) (sym (get_or-take stop bytes k 0 within)) (seen k within)) in (
      sym (first_is_position (λ b. eqb b 10) bytes (Some stop) first),
      ap words (same ∙ taken bytes start stop le) ∙ so_far.words w ∙ ap (option_map (λ ws. found ++ ws)) (words_last w above) ∙ ap (λ (x : List (List ℕ)). Some x) (sym is),
    )

-- words that are known for where a line ends
pub words_known : (near : Option ℕ) (has : Bool) (bytes line : List ℕ) (found : List (List ℕ)) → has ≡ is_some near
    → IfSome near (λ n. words (without_return (take n bytes)) ≡ Some found)
    → IfSome near (λ n. line ≡ without_return (take n bytes))
    → IsTrue has → words line ≡ Some found
words_known None true bytes line found e known first is = absurd cc
words_known None false bytes line found e known first is = absurd cc
words_known (Some n) has bytes line found e known first is = ap words first ∙ known

-- the first line, where it is known or not known where it ends
pub first_known : (known : Option ℕ) (bytes line : List ℕ) (end : ℕ)
    → IfSome known (λ n. position (λ b. eqb b 10) bytes ≡ Some n) → position (λ b. eqb b 10) bytes ≡ Some end
    → line ≡ without_return (take end bytes) → IfSome known (λ n. line ≡ without_return (take n bytes))
first_known None bytes line end h at is = tt
first_known (Some n) bytes line end h at is =
    let both : Some end ≡ Some n = sym at ∙ h in
    let same : end ≡ n = cc in
    is ∙ ap (λ (k : ℕ). without_return (take k bytes)) same

pub first_unknown : (known : Option ℕ) (bytes line : List ℕ)
    → IfSome known (λ n. position (λ b. eqb b 10) bytes ≡ Some n) → position (λ b. eqb b 10) bytes ≡ None
    → IfSome known (λ n. line ≡ without_return (take n bytes))
first_unknown None bytes line h at = tt
first_unknown (Some n) bytes line h at = let both : None ≡ Some n = sym at ∙ h in absurd cc

-- ---- a bit for each byte

abbrev pub is_stop : ℕ → Bool
is_stop b = ltb b 35

bit_set : (t : Bool) → cond {A = ℕ} t 1 0 ≡ 1 → t ≡ true
bit_set true e = refl
bit_set false e = absurd (omega (arith, e))

bit_clear : (t : Bool) → cond {A = ℕ} t 1 0 ≡ 0 → t ≡ false
bit_clear true e = absurd (omega (arith, e))
bit_clear false e = refl

not_both : (t : Bool) → t ≡ true → t ≡ false → ⊥
not_both t e f = cc

pub stop_within : (bytes : List ℕ) (k : ℕ) → length bytes ≡ 32 → bit_at (mask_l (map is_stop bytes)) k ≡ 1 → k < 32
stop_within bytes k long e = elim (cases_lt k 32) [
  | inl a ↦ a
  | inr b ↦
      let past : get_or (map is_stop bytes) k false ≡ false = get_or_past (map is_stop bytes) k false (omega (arith, b, long, length-map bytes is_stop)) in
      absurd (not_both _ (bit_set _ (sym (bit_mask_l (map is_stop bytes) k) ∙ e)) past)
]

pub clear_byte : (bytes : List ℕ) (k : ℕ) → length bytes ≡ 32 → k < 32
    → bit_at (mask_l (map is_stop bytes)) k ≡ 0 → 34 < get_or bytes k 0
clear_byte bytes k long lt e =
    let at : get_or (map is_stop bytes) k false ≡ is_stop (get_or bytes k 0) = get_or-map is_stop bytes k 0 false (omega (arith, lt, long)) in
    let none : is_stop (get_or bytes k 0) ≡ false = sym at ∙ bit_clear _ (sym (bit_mask_l (map is_stop bytes) k) ∙ e) in
    omega (arith, ltb-false (get_or bytes k 0) 35 none)
