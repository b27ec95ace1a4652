-- Valid texts stay valid: a part of one between places that split no pair, two in a row, and a replaced range.
use Rattle.std.proofs.Common.{◌≡◌, ℕ, ◌+◌, ◌-◌, ◌<◌, ◌≤◌, ◌^◌, Bool, true, false, ◌&&◌, ◌||◌, List, [], ◌++◌, None, Some, cond, nat_lt, length, take, drop, get_or, refl, sym, ap, ap₂, ◌∙◌, ⊎_elim, arith, lit<}
use Rattle.std.proofs.lemmas.Bool.{cases_lt, or_parts, ltb-false}
use Rattle.std.proofs.lemmas.List.{get_or-take, get_or-drop, get_or_append_left, get_or-append_right, get_or_past, length-take, length-take-le, take-append-le, take-take, drop_at, append_assoc}
use Rattle.std.specs.Char.Utf16.{is_high_surrogate, is_low_surrogate}
use Rattle.cf_string.specs.Units.{IsText, splits_pair, replacement}
use Rattle.cf_string.specs.Faults.{split_fault}
use Rattle.cf_string.specs.declared.faults.StrFault.TheVariants.{Range, SplitsPair}

low_past : (units : List ℕ) (i : ℕ) → length units ≤ i → is_low_surrogate (get_or units i 0) ≡ false
low_past units i past = ap is_low_surrogate (get_or_past units i 0 past)

high_past : (units : List ℕ) (i : ℕ) → length units ≤ i → is_high_surrogate (get_or units i 0) ≡ false
high_past units i past = ap is_high_surrogate (get_or_past units i 0 past)

in_range_past : (units : List ℕ) (i : ℕ) → length units ≤ i → get_or units i 0 < 2 ^ 16
in_range_past units i past = omega (arith, get_or_past units i 0 past)

second_false : (a b : Bool) → b ≡ a → (a && b) ≡ false → b ≡ false
second_false false b same both = same
second_false true b same both = both

-- the same place, spelled otherwise
low_same : (units : List ℕ) (i j : ℕ) → i ≡ j
    → is_low_surrogate (get_or units i 0) ≡ is_low_surrogate (get_or units j 0)
low_same units i j same = ap (λ k. is_low_surrogate (get_or units k 0)) same

-- no low surrogate stands at a place that splits no pair
pub low_at_split : (units : List ℕ) (i : ℕ) → IsText units → splits_pair units i ≡ false
    → is_low_surrogate (get_or units i 0) ≡ false
low_at_split units i text whole = ⊎_elim
    (λ (inside : 0 < i). second_false _ _ (low_same units i (i - 1 + 1) (omega arith) ∙ text.paired (i - 1)) whole)
    (λ (start : i ≤ 0). low_same units i 0 (omega arith) ∙ text.starts_whole)
    (cases_lt 0 i)

pub IsText-nil : IsText []
IsText-nil = record { in_range = λ i. lit< tt; starts_whole = refl; paired = λ i. refl }

-- the last unit of a text is no high surrogate
high_at_end : (units : List ℕ) (i : ℕ) → IsText units → length units ≤ i + 1
    → is_high_surrogate (get_or units i 0) ≡ false
high_at_end units i text last = sym (text.paired i) ∙ low_past units (i + 1) last

pub IsText-drop : (units : List ℕ) (n : ℕ) → IsText units → is_low_surrogate (get_or units n 0) ≡ false
    → IsText (drop n units)
IsText-drop units n text whole = record {
  in_range = λ i. rw (get_or-drop n units i 0) (text.in_range (n + i));
  starts_whole = rw (get_or-drop n units 0 0) (low_same units (n + 0) n (omega arith) ∙ whole);
  paired = λ i. rw (get_or-drop n units i 0, get_or-drop n units (i + 1) 0)
      (low_same units (n + (i + 1)) (n + i + 1) (omega arith) ∙ text.paired (n + i));
}

pub IsText-take : (units : List ℕ) (n : ℕ) → IsText units → is_low_surrogate (get_or units n 0) ≡ false
    → IsText (take n units)
IsText-take units n text whole = record {
  in_range = λ i. ⊎_elim
      (λ below. rw (get_or-take n units i 0 below) (text.in_range i))
      (λ past. in_range_past (take n units) i (omega (arith, length-take n units)))
      (cases_lt i n);
  starts_whole = ⊎_elim
      (λ below. rw (get_or-take n units 0 0 below) text.starts_whole)
      (λ past. low_past (take n units) 0 (omega (arith, length-take n units)))
      (cases_lt 0 n);
  paired = λ i. ⊎_elim
      (λ below. rw (get_or-take n units (i + 1) 0 below, get_or-take n units i 0 (omega arith)) (text.paired i))
      (λ (past : n ≤ i + 1). low_past (take n units) (i + 1) (omega (arith, length-take n units)) ∙ sym (⊎_elim
      (λ (below : i < n). rw (get_or-take n units i 0 below)
      (sym (text.paired i) ∙ low_same units (i + 1) n (omega arith) ∙ whole))
      (λ over. high_past (take n units) i (omega (arith, length-take n units)))
      (cases_lt i n)))
      (cases_lt (i + 1) n);
}

pub IsText-append : (xs ys : List ℕ) → IsText xs → IsText ys → IsText (xs ++ ys)
IsText-append xs ys front back = record {
  in_range = λ i. ⊎_elim
      (λ below. rw (get_or_append_left xs ys 0 i below) (front.in_range i))
      (λ past. rw (get_or-append_right xs ys (length xs) i 0 refl past) (back.in_range (i - length xs)))
      (cases_lt i (length xs));
  starts_whole = ⊎_elim
      (λ below. rw (get_or_append_left xs ys 0 0 below) front.starts_whole)
      (λ past. rw (get_or-append_right xs ys (length xs) 0 0 refl past)
      (low_same ys (0 - length xs) 0 (omega arith) ∙ back.starts_whole))
      (cases_lt 0 (length xs));
  paired = λ i. ⊎_elim
      (λ below. rw (get_or_append_left xs ys 0 (i + 1) below, get_or_append_left xs ys 0 i (omega arith))
      (front.paired i))
      (λ (past : length xs ≤ i + 1). rw (get_or-append_right xs ys (length xs) (i + 1) 0 refl past) (⊎_elim
      (λ (below : i < length xs). rw (get_or_append_left xs ys 0 i below) (
      low_same ys (i + 1 - length xs) 0 (omega arith) ∙ back.starts_whole
      ∙ sym (high_at_end xs i front past)))
      (λ (over : length xs ≤ i). rw (get_or-append_right xs ys (length xs) i 0 refl over) (
      low_same ys (i + 1 - length xs) (i - length xs + 1) (omega arith)
      ∙ back.paired (i - length xs)))
      (cases_lt i (length xs))))
      (cases_lt (i + 1) (length xs));
}

-- what it means that a range may be cut
pub record IsWholeCut (units : List ℕ) (at len : ℕ) : Type 0 where
  pub fits : at + len ≤ length units
  pub front : splits_pair units at ≡ false
  pub back : splits_pair units (at + len) ≡ false

whole_cut_by : (units : List ℕ) (at len : ℕ) (range split : Bool) → nat_lt (length units) (at + len) ≡ range
    → (splits_pair units at || splits_pair units (at + len)) ≡ split
    → cond range (Some Range) (cond split (Some SplitsPair) None) ≡ None → IsWholeCut units at len
whole_cut_by units at len true split is_range is_split none = cc
whole_cut_by units at len false true is_range is_split none = cc
whole_cut_by units at len false false is_range is_split none = let parts = or_parts _ _ is_split in
    record { fits = ltb-false _ _ is_range; front = parts.0; back = parts.1 }

pub whole_split : (units : List ℕ) (at len : ℕ) → split_fault units at len ≡ None → IsWholeCut units at len
whole_split units at len none = whole_cut_by units at len _ _ refl refl none

-- a part of a text, between places that split no pair
pub IsText-part : (units : List ℕ) (at len : ℕ) → IsText units → split_fault units at len ≡ None
    → IsText (take len (drop at units))
IsText-part units at len text none =
    let cut = whole_split units at len none in
    IsText-take (drop at units) len (IsText-drop units at text (low_at_split units at text cut.front))
    (rw (get_or-drop at units len 0) (low_at_split units (at + len) text cut.back))

-- a text with a range replaced by another text; by the empty one it is taken out, and an empty range takes it in
pub IsText-replacement : (units : List ℕ) (at len : ℕ) (other : List ℕ) → IsText units → IsText other
    → split_fault units at len ≡ None → IsText (replacement units at len other)
IsText-replacement units at len other text put none =
    let cut = whole_split units at len none in
    IsText-append (take at units ++ other) (drop (at + len) units)
    (IsText-append (take at units) other (IsText-take units at text (low_at_split units at text cut.front)) put)
    (IsText-drop units (at + len) text (low_at_split units (at + len) text cut.back))

-- the second text is put in after the range, and then the range is taken out
pub replaced_in_two : (units : List ℕ) (at len : ℕ) (other put : List ℕ) → at + len ≤ length units
    → put ≡ replacement units (at + len) 0 other → take at put ++ drop (at + len) put ≡ replacement units at len other
replaced_in_two units at len other put fits is =
    let cut = at + len in
    let front = take cut units in
    let rest = drop cut units in
    let front_len : length front ≡ cut = length-take-le cut units fits in
    let none : cut + 0 ≡ cut = omega arith in
    let whole : put ≡ front ++ (other ++ rest) =
    is ∙ ap (λ n. front ++ other ++ drop n units) none ∙ append_assoc front other rest in
    let kept : take at put ≡ take at units =
    ap (take at) whole ∙ take-append-le at front (other ++ rest) (omega arith) ∙ take-take at cut units (omega arith) in
    let moved : drop cut put ≡ other ++ rest = ap (drop cut) whole ∙ drop_at front (other ++ rest) cut front_len in
    ap₂ (λ xs ys. xs ++ ys) kept moved ∙ sym (append_assoc (take at units) other rest)
