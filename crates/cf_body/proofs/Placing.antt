-- Edits of places, and the slots at places.
use Rattle.std.proofs.Common.{arith, add-one, ◌≡◌, ℕ, ℤ, zero, suc, ◌+◌, ◌<◌, ◌≤◌, Bool, true, false, List, [], ◌∷◌, ◌++◌, length, take, drop, get_or, Option, Some, None, OnSome, refl, sym, ap, ◌∙◌, ⊎_elim, slice_get, slice_set}
use Rattle.std.specs.Prelude.{slice_index}
use Rattle.std.specs.Option.{option_map, option_to_list}
use Rattle.std.specs.List.{splice, remove}
use Rattle.std.proofs.lemmas.Bool.{cases_lt}
use Rattle.std.proofs.lemmas.Option.{slice_get_read, slice_get_within}
use Rattle.cf_types.specs.declared.cells.Cell.{Cell}
use Rattle.cf_contents.specs.Contents.{Content, text_content, data_content, number_content, instance_content, array_content, dictionary_content, set_content, bag_content, heap_content, present, flat, ids_of, row_ids, id_in_row, order_of, unless_plain, slots_in, member_limit, item_content}
use Rattle.cf_callbacks.specs.Ranking.{by_rank}
use Rattle.cf_callbacks.proofs.RankingLaws.{length-by_rank}
use Rattle.cf_body.specs.Bodies.{most_in, members_in}
use Rattle.cf_body.specs.Changes.{DoneTo}
use Rattle.cf_body.specs.Pairs.{numbers_in}
use Rattle.cf_body.specs.declared.change.BodyChange.TheVariants.{Replace, Remove, Fill, Clear}
use Rattle.cf_body.specs.declared.change.Moved.{Moved}

-- there is no unit
pub none_read : (xs : List ℕ) (i : ℕ) → None ≡ slice_get xs i → 0 ≡ slice_index xs i
none_read [] i none = refl
none_read (x ∷ xs) zero none = absurd cc
none_read (x ∷ xs) (suc i) none = none_read xs i none

-- one item in place of another, and after the last one
set_spliced : {A : Type 0} (xs : List A) (at : ℕ) (x : A) → at < length xs
    → slice_set xs at x ≡ splice xs at (suc at) (x ∷ [])
set_spliced [] at x within = absurd (omega arith)
set_spliced (y ∷ ys) zero x within = refl
set_spliced {A = A} (y ∷ ys) (suc at) x within = ap (λ (zs : List A). y ∷ zs) (set_spliced ys at x (omega arith))

behind : {A : Type 0} (xs : List A) (at : ℕ) (x : A) → at ≡ length xs → xs ++ x ∷ [] ≡ splice xs at (suc at) (x ∷ [])
behind [] zero x is = refl
behind [] (suc at) x is = absurd (omega arith)
behind (y ∷ ys) zero x is = absurd (omega arith)
behind {A = A} (y ∷ ys) (suc at) x is = ap (λ (zs : List A). y ∷ zs) (behind ys at x (omega arith))

-- what goes out there
out_at : {A : Type 0} (xs : List A) (at : ℕ) → take 1 (drop at xs) ≡ option_to_list (slice_get xs at)
out_at [] zero = refl
out_at [] (suc at) = refl
out_at (y ∷ ys) zero = refl
out_at (y ∷ ys) (suc at) = out_at ys at

one_present : (o : Option ℕ) → present (o ∷ None ∷ []) ≡ option_to_list o
one_present None = refl
one_present (Some x) = refl

pub field_present : (o : Option ℕ) → present (o ∷ None ∷ []) ≡ present (o ∷ [])
field_present None = refl
field_present (Some x) = refl

field_out : (fields : List (Option ℕ)) (at : ℕ) (old : Option ℕ) → at < length fields → old ≡ get_or fields at old
    → present (old ∷ None ∷ []) ≡ present (take 1 (drop at fields))
field_out fields at old within is =
    field_present old ∙ sym (ap present (out_at fields at ∙ ap option_to_list (slice_get_read fields (length fields) at old refl within is)))

field_set : (fields : List (Option ℕ)) (at : ℕ) (new filled : Option ℕ) → at < length fields → new ≡ filled
    → slice_set fields at new ≡ splice fields at (at + 1) (filled ∷ [])
field_set fields at new filled within is = rw add-one (ap (slice_set fields at) is ∙ set_spliced fields at filled within)

pub fill_done : (key : ℤ) (fields : List (Option ℕ)) (at element : ℕ) (old new : Option ℕ) → at < length fields
    → old ≡ get_or fields at old → new ≡ Some element
    → DoneTo (Fill at element) (instance_content key fields) (instance_content key (slice_set fields at new))
    (record { took = Some element ∷ None ∷ []; gave = old ∷ None ∷ [] })
fill_done key fields at element old new within is filled = record {
  content = ap (instance_content key) (field_set fields at new (Some element) within filled);
  took = refl;
  gave = field_out fields at old within is;
}

pub clear_done : (key : ℤ) (fields : List (Option ℕ)) (at : ℕ) (old new : Option ℕ) → at < length fields
    → old ≡ get_or fields at old → new ≡ None
    → DoneTo (Clear at) (instance_content key fields) (instance_content key (slice_set fields at new))
    (record { took = None ∷ None ∷ []; gave = old ∷ None ∷ [] })
clear_done key fields at old new within is cleared = record {
  content = ap (instance_content key) (field_set fields at new None within cleared);
  took = refl;
  gave = field_out fields at old within is;
}

pub remove_done : (plain : Bool) (os now : List ℕ) (at old : ℕ) (moved : Moved) → slice_get os at ≡ Some old
    → now ≡ remove os at
    → present moved.took ≡ unless_plain plain [] → present moved.gave ≡ unless_plain plain (old ∷ [])
    → DoneTo (Remove at) (array_content plain os) (array_content plain now) moved
remove_done plain os now at old moved is items took gave = record {
  content = ap (array_content plain) (rw add-one items);
  took = took;
  gave = gave ∙ sym (ap (unless_plain plain) (out_at os at ∙ ap option_to_list is));
}

pub replace_done : (plain : Bool) (os now : List ℕ) (at element : ℕ) (old : Option ℕ) (moved : Moved) → at ≤ length os
    → (at < length os → now ≡ slice_set os at element) → (at ≡ length os → now ≡ os ++ element ∷ [])
    → old ≡ slice_get os at
    → present moved.took ≡ unless_plain plain (element ∷ [])
    → present moved.gave ≡ unless_plain plain (present (old ∷ None ∷ []))
    → DoneTo (Replace at element) (array_content plain os) (array_content plain now) moved
replace_done plain os now at element old moved within set more is took gave = record {
  content = ap (array_content plain) (rw add-one (⊎_elim
      (λ (inside : at < length os). set inside ∙ set_spliced os at element inside)
      (λ (past : length os ≤ at). let end : at ≡ length os = omega arith in more end ∙ behind os at element end)
      (cases_lt at (length os))));
  took = took;
  gave = gave ∙ ap (unless_plain plain) (one_present old ∙ sym (out_at os at ∙ ap option_to_list (sym is)));
}

-- the slots of pairs: each has two
flat_even : (items : List (Cell × ℕ)) (k q : ℕ) → k ≡ q + q
    → slice_get (flat items) k ≡ option_map (λ (p : ℕ × ℕ). p.0) (option_map numbers_in (slice_get items q))
flat_even [] k q is = refl
flat_even (p ∷ ps) zero zero is = refl
flat_even (p ∷ ps) (suc k) zero is = absurd (omega arith)
flat_even (p ∷ ps) zero (suc q) is = absurd (omega arith)
flat_even (p ∷ ps) (suc zero) (suc q) is = absurd (omega arith)
flat_even (p ∷ ps) (suc (suc k)) (suc q) is = flat_even ps k q (omega arith)

flat_odd : (items : List (Cell × ℕ)) (k q : ℕ) → k ≡ suc (q + q)
    → slice_get (flat items) k ≡ option_map (λ (p : ℕ × ℕ). p.1) (option_map numbers_in (slice_get items q))
flat_odd [] k q is = refl
flat_odd (p ∷ ps) zero q is = absurd (omega arith)
flat_odd (p ∷ ps) (suc zero) zero is = refl
flat_odd (p ∷ ps) (suc (suc k)) zero is = absurd (omega arith)
flat_odd (p ∷ ps) (suc zero) (suc q) is = absurd (omega arith)
flat_odd (p ∷ ps) (suc (suc k)) (suc q) is = flat_odd ps k q (omega arith)

flat_past : (items : List (Cell × ℕ)) (k q : ℕ) → q + q ≤ k → None ≡ option_map numbers_in (slice_get items q)
    → None ≡ slice_get (flat items) k
flat_past [] k q past none = refl
flat_past (p ∷ ps) k zero past none = absurd cc
flat_past (p ∷ ps) zero (suc q) past none = absurd (omega arith)
flat_past (p ∷ ps) (suc zero) (suc q) past none = absurd (omega arith)
flat_past (p ∷ ps) (suc (suc k)) (suc q) past none = flat_past ps k q (omega arith) none

pub even_slot : (plain : Bool) (items : List (Cell × ℕ)) (k q key value : ℕ) → plain ≡ false
    → Some (key, value) ≡ option_map numbers_in (slice_get items q) → k ≡ q + q
    → Some key ≡ slice_get (unless_plain plain (flat items)) k
even_slot plain items k q key value typed is even = rw typed (ap (option_map (λ (p : ℕ × ℕ). p.0)) is ∙ sym (flat_even items k q even))

pub odd_slot : (plain : Bool) (items : List (Cell × ℕ)) (k q key value : ℕ) → plain ≡ false
    → Some (key, value) ≡ option_map numbers_in (slice_get items q) → k ≡ suc (q + q)
    → Some value ≡ slice_get (unless_plain plain (flat items)) k
odd_slot plain items k q key value typed is odd = rw typed (ap (option_map (λ (p : ℕ × ℕ). p.1)) is ∙ sym (flat_odd items k q odd))

pub no_slot : (plain : Bool) (items : List (Cell × ℕ)) (k q : ℕ) → plain ≡ false
    → None ≡ option_map numbers_in (slice_get items q) → q + q ≤ k
    → None ≡ slice_get (unless_plain plain (flat items)) k
no_slot plain items k q typed none past = rw typed (flat_past items k q past none)

-- the fields from a place on, of which the first is filled or empty
pub next_filled : (fields : List (Option ℕ)) (i : ℕ) (f : Option ℕ) → i < length fields → f ≡ get_or fields i f
    → present (drop i fields) ≡ present (f ∷ drop (suc i) fields)
next_filled [] i f within is = absurd (omega arith)
next_filled (g ∷ gs) zero f within is = ap (λ (h : Option ℕ). present (h ∷ gs)) (sym is)
next_filled (g ∷ gs) (suc i) f within is = next_filled gs i f (omega arith) is

-- ---- how many slots there are

length-flat : (items : List (Cell × ℕ)) → length (flat items) ≡ length items + length items
length-flat [] = refl
length-flat (p ∷ ps) = omega (arith, length-flat ps)

length-present : (fields : List (Option ℕ)) → length (present fields) ≤ length fields
length-present [] = omega arith
length-present (None ∷ fs) = omega (arith, length-present fs)
length-present (Some o ∷ fs) = omega (arith, length-present fs)

length-ids : (ms : List Cell) → length (ids_of ms) ≡ length ms
length-ids [] = refl
length-ids (m ∷ ms) = omega (arith, length-ids ms)

length-row_ids : (rows : List (Cell × ℕ)) → length (row_ids rows) ≡ length rows
length-row_ids [] = refl
length-row_ids (r ∷ rs) = omega (arith, length-row_ids rs)

slots_twice : (c : Content) → length (slots_in c) ≤ most_in c + most_in c
slots_twice (text_content mutable units) = omega arith
slots_twice (data_content mutable bytes) = omega arith
slots_twice (number_content n) = omega arith
slots_twice (instance_content key fields) = omega (arith, length-present fields)
slots_twice (array_content true os) = omega arith
slots_twice (array_content false os) = omega arith
slots_twice (dictionary_content true pairs) = omega arith
slots_twice (dictionary_content false pairs) = omega (arith, length-flat pairs)
slots_twice (set_content true members) = omega arith
slots_twice (set_content false members) = omega (arith, length-ids members)
slots_twice (bag_content true rows) = omega arith
slots_twice (bag_content false rows) = omega (arith, length-row_ids rows)
slots_twice (heap_content true adds rows) = omega arith
slots_twice (heap_content false adds rows) =
    omega (arith, length-row_ids (by_rank (order_of false) rows), length-by_rank (order_of false) rows)
slots_twice (item_content handler info valid item) = omega (arith, length-present (info ∷ []))

pub few_slots : (c : Content) (k : ℕ) (slot : Option ℕ) → most_in c < member_limit → slot ≡ slice_get (slots_in c) k
    → OnSome slot (k + 1 < 4294967296)
few_slots c k None few is = tt
few_slots c k (Some o) few is = omega (arith, slots_twice c, slice_get_within (slots_in c) k o (sym is), few)

-- the slots of members and of rows
pub ids_at : (ms : List Cell) (k : ℕ) → slice_get (ids_of ms) k ≡ option_map (λ (m : Cell). m.id) (slice_get ms k)
ids_at [] k = refl
ids_at (m ∷ ms) zero = refl
ids_at (m ∷ ms) (suc k) = ids_at ms k

pub row_ids_at : (rows : List (Cell × ℕ)) (k : ℕ)
    → slice_get (row_ids rows) k ≡ option_map id_in_row (slice_get rows k)
row_ids_at [] k = refl
row_ids_at (r ∷ rs) zero = refl
row_ids_at (r ∷ rs) (suc k) = row_ids_at rs k

-- the first of the slots that are left
pub first_left : (slots : List ℕ) (k : ℕ) → slice_get (drop k slots) 0 ≡ slice_get slots k
first_left [] zero = refl
first_left [] (suc k) = refl
first_left (s ∷ ss) zero = refl
first_left (s ∷ ss) (suc k) = first_left ss k
