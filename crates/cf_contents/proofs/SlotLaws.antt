-- What a change takes in and gives out is what it changes in the slots.
use Rattle.std.proofs.Common.{◌≡◌, ℕ, zero, suc, ◌+◌, ◌≤◌, Bool, true, false, cond, List, [], ◌∷◌, ◌++◌, take, drop, replicate, Option, Some, None, refl, sym, ap, ◌∙◌, arith}
use Rattle.std.specs.Prelude.{slice_get, is_some}
use Rattle.std.specs.List.{list_any}
use Rattle.std.specs.Map.{lookup, lookup_entry, remove_entry, set_value}
use Rattle.std.specs.Option.{option_to_list}
use Rattle.std.proofs.lemmas.List.{take-append-drop, drop-drop}
use Rattle.cf_types.specs.declared.cells.Cell.{Cell}
use Rattle.cf_contents.specs.Contents.{Content, text_content, data_content, instance_content, array_content, dictionary_content, set_content, bag_content, heap_content, Object, times, present, flat, row_ids, order_of, unless_plain, slots_in, slots_at, item_content}
use Rattle.cf_contents.specs.Keys.{equal_to}
use Rattle.cf_contents.specs.Deeds.{Origin, nowhere, fresh, there, Splice, Change, unchanged, in_text, in_data, in_places, put_pair, remove_pair, add_member, put_member, remove_member, remove_least, splice_of, splice_out, elements, coming_by, text_after, data_after, places_after, entering, leaving, put_after, put_entering, put_leaving, removed_after, removed_leaving, unless_found, added_after, added_entering, put_member_after, put_member_entering, put_member_leaving, removed_member_after, removed_member_leaving, least_after, least_leaving, content_after, coming_in, going_out, taken_in, given_out, with_change, in_item, item_after}
use Rattle.cf_callbacks.specs.Ranking.{by_rank, least, without_least}
use Rattle.cf_contents.proofs.MemberLaws.{times-rows, key_most, put_members, put_rows, removed_members, removed_rows, added_members, added_rows, sorted_rows, least_rows}
use Rattle.cf_contents.specs.Items.{Item}

pub times-append : (n : ℕ) (xs ys : List ℕ) → times n (xs ++ ys) ≡ times n xs + times n ys
times-append n [] ys = omega arith
times-append n (x ∷ xs) ys = omega (arith, times-append n xs ys)

present-append : (xs ys : List (Option ℕ)) → present (xs ++ ys) ≡ present xs ++ present ys
present-append [] ys = refl
present-append (None ∷ xs) ys = present-append xs ys
present-append (Some o ∷ xs) ys = ap (λ (os : List ℕ). o ∷ os) (present-append xs ys)

times-present : (n : ℕ) (xs ys : List (Option ℕ))
    → times n (present (xs ++ ys)) ≡ times n (present xs) + times n (present ys)
times-present n xs ys = ap (times n) (present-append xs ys) ∙ times-append n (present xs) (present ys)

times-flat : (n : ℕ) (xs ys : List (Cell × ℕ)) → times n (flat (xs ++ ys)) ≡ times n (flat xs) + times n (flat ys)
times-flat n [] ys = omega arith
times-flat n (x ∷ xs) ys = omega (arith, times-flat n xs ys)

-- empty places hold nothing
pub present-empty : (n : ℕ) → present (replicate n None) ≡ []
present-empty zero = refl
present-empty (suc n) = present-empty n

-- ---- edits of lists, by a number that is additive

module _ {A : Type 0} (f : List A → ℕ) (adds : (xs ys : List A) → f (xs ++ ys) ≡ f xs + f ys) where
  -- a list in three parts: before an edit, what it takes out, and after it
  in_parts : (xs : List A) (at out : ℕ) → xs ≡ take at xs ++ (take out (drop at xs) ++ drop (at + out) xs)
  in_parts xs at out =
      sym (take-append-drop at xs) ∙ ap (λ (ps : List A). take at xs ++ ps) (sym (take-append-drop out (drop at xs)) ∙ ap (λ (ps : List A). take out (drop at xs) ++ ps) (drop-drop out at xs))

  splice_law : (xs : List A) (e : Splice A) → f (splice_of xs e) + f (splice_out xs e) ≡ f xs + f e.enter
  splice_law xs e =
      let front = take e.at xs in
      let gone = splice_out xs e in
      let behind = drop (e.at + e.out) xs in
      omega (arith, adds front (e.enter ++ behind), adds e.enter behind, adds front (gone ++ behind), adds gone behind, ap f (in_parts xs e.at e.out))

  removed_most : (xs : List A) (e : Splice A) → f (splice_out xs e) ≤ f xs
  removed_most xs e =
      let gone = splice_out xs e in
      let behind = drop (e.at + e.out) xs in
      omega (arith, adds (take e.at xs) (gone ++ behind), adds gone behind, ap f (in_parts xs e.at e.out))

-- ---- edits of pairs

-- the value of a key that is there is another
set_head : (n v old : ℕ) (test : Cell → Bool) (p : Cell × ℕ) (ps : List (Cell × ℕ)) (b : Bool)
    → (lookup test ps ≡ Some old → times n (flat (set_value test ps v)) + times n (old ∷ []) ≡ times n (flat ps) + times n (v ∷ []))
    → cond b (Some p.1) (lookup test ps) ≡ Some old
    → times n (flat (cond b ((p.0, v) ∷ ps) (p ∷ set_value test ps v))) + times n (old ∷ [])
    ≡ times n (flat (p ∷ ps)) + times n (v ∷ [])
set_head n v old test p ps true rest h = let same : p.1 ≡ old = cc in omega (arith, ap (λ (o : ℕ). times n (o ∷ [])) same)
set_head n v old test p ps false rest h = omega (arith, rest h)

set_law : (n v old : ℕ) (test : Cell → Bool) (pairs : List (Cell × ℕ)) → lookup test pairs ≡ Some old
    → times n (flat (set_value test pairs v)) + times n (old ∷ []) ≡ times n (flat pairs) + times n (v ∷ [])
set_law n v old test [] h = absurd cc
set_law n v old test (p ∷ ps) h = set_head n v old test p ps (test p.0) (set_law n v old test ps) h

put_law : (n : ℕ) (test : Cell → Bool) (pairs : List (Cell × ℕ)) (k : Cell) (v : ℕ) (found : Option ℕ)
    → lookup test pairs ≡ found
    → times n (flat (cond (is_some found) (set_value test pairs v) (pairs ++ (k, v) ∷ [])))
    + times n (option_to_list found) ≡ times n (flat pairs)
    + times n (cond (is_some found) (v ∷ []) (k.id ∷ v ∷ []))
put_law n test pairs k v None h = omega (arith, times-flat n pairs ((k, v) ∷ []))
put_law n test pairs k v (Some old) h = set_law n v old test pairs h

-- a pair that is taken out
take_head : (n : ℕ) (test : Cell → Bool) (p : Cell × ℕ) (ps : List (Cell × ℕ)) (b : Bool)
    → times n (flat (remove_entry test ps)) + times n (flat (option_to_list (lookup_entry test ps)))
    ≡ times n (flat ps)
    → times n (flat (cond b ps (p ∷ remove_entry test ps)))
    + times n (flat (option_to_list (cond b (Some p) (lookup_entry test ps)))) ≡ times n (flat (p ∷ ps))
take_head n test p ps true rest = omega arith
take_head n test p ps false rest = omega (arith, rest)

take_law : (n : ℕ) (test : Cell → Bool) (pairs : List (Cell × ℕ))
    → times n (flat (remove_entry test pairs)) + times n (flat (option_to_list (lookup_entry test pairs)))
    ≡ times n (flat pairs)
take_law n test [] = refl
take_law n test (p ∷ ps) = take_head n test p ps (test p.0) (take_law n test ps)

-- a value that is looked up stands among the pairs
found_head : (n : ℕ) (test : Cell → Bool) (p : Cell × ℕ) (ps : List (Cell × ℕ)) (b : Bool)
    → times n (option_to_list (lookup test ps)) ≤ times n (flat ps)
    → times n (option_to_list (cond b (Some p.1) (lookup test ps))) ≤ times n (flat (p ∷ ps))
found_head n test p ps true rest = omega arith
found_head n test p ps false rest = omega (arith, rest)

found_most : (n : ℕ) (test : Cell → Bool) (pairs : List (Cell × ℕ))
    → times n (option_to_list (lookup test pairs)) ≤ times n (flat pairs)
found_most n test [] = omega arith
found_most n test (p ∷ ps) = found_head n test p ps (test p.0) (found_most n test ps)

-- ---- what holds of members holds of slots, of which a plain collection has none

unless_law : (n : ℕ) (plain : Bool) (a b c d : List ℕ) → times n a + times n b ≡ times n c + times n d
    → times n (unless_plain plain a) + times n (unless_plain plain b)
    ≡ times n (unless_plain plain c) + times n (unless_plain plain d)
unless_law n true a b c d h = refl
unless_law n false a b c d h = h

unless_most : (n : ℕ) (plain : Bool) (a b : List ℕ) → times n a ≤ times n b
    → times n (unless_plain plain a) ≤ times n (unless_plain plain b)
unless_most n true a b h = omega arith
unless_most n false a b h = h

unless_none : (n : ℕ) (plain : Bool) (a b c : List ℕ) → times n a + times n b ≡ times n c
    → times n (unless_plain plain a) + times n (unless_plain plain b) ≡ times n (unless_plain plain c) + times n []
unless_none n true a b c h = refl
unless_none n false a b c h = omega (arith, h)

unless_more : (n : ℕ) (plain : Bool) (a c d : List ℕ) → times n a ≡ times n c + times n d
    → times n (unless_plain plain a) + times n [] ≡ times n (unless_plain plain c) + times n (unless_plain plain d)
unless_more n true a c d h = refl
unless_more n false a c d h = omega (arith, h)

text_law : (n : ℕ) (e : Splice ℕ) (c : Content) → slots_in (text_after e c) ≡ slots_in c
text_law n e (text_content true units) = refl
text_law n e _ = refl

data_law : (n : ℕ) (e : Splice ℕ) (c : Content) → slots_in (data_after e c) ≡ slots_in c
data_law n e (data_content true bytes) = refl
data_law n e _ = refl

places_law : (n : ℕ) (e : Splice (Option ℕ)) (c : Content)
    → times n (slots_in (places_after e c)) + times n (leaving e c) ≡ times n (slots_in c) + times n (entering e c)
places_law n e (instance_content key fields) = splice_law (λ (ps : List (Option ℕ)). times n (present ps)) (times-present n) fields e
places_law n e (array_content plain os) = unless_law n plain _ _ _ _ (splice_law (times n) (times-append n) os (elements e))
places_law n e _ = omega arith

pair_law : (n : ℕ) (key : Cell) (value : ℕ) (c : Content)
    → times n (slots_in (put_after key value c)) + times n (put_leaving key c)
    ≡ times n (slots_in c) + times n (put_entering key value c)
pair_law n key value (dictionary_content plain pairs) =
    unless_law n plain _ _ _ _ (put_law n (equal_to plain key) pairs key value (lookup (equal_to plain key) pairs) refl)
pair_law n key value _ = omega arith

removed_law : (n : ℕ) (key : Cell) (c : Content)
    → times n (slots_in (removed_after key c)) + times n (removed_leaving key c) ≡ times n (slots_in c) + times n []
removed_law n key (dictionary_content plain pairs) = unless_none n plain _ _ _ (take_law n (equal_to plain key) pairs)
removed_law n key _ = omega arith

added_law : (n : ℕ) (x : Cell) (c : Content)
    → times n (slots_in (added_after x c)) + times n [] ≡ times n (slots_in c) + times n (added_entering x c)
added_law n x (set_content plain members) =
    unless_more n plain _ _ _ (added_members n (equal_to plain x) x members (list_any (equal_to plain x) members))
added_law n x (bag_content plain rows) =
    unless_more n plain _ _ _ (added_rows n (equal_to plain x) x rows (lookup (equal_to plain x) rows))
added_law n x (heap_content plain adds rows) =
    let rank = order_of plain in
    let more = rows ++ (x, adds) ∷ [] in
    unless_more n plain (row_ids (by_rank rank more)) (row_ids (by_rank rank rows)) (x.id ∷ [])
    (omega (arith, sorted_rows n rank more, sorted_rows n rank rows, times-rows n rows ((x, adds) ∷ [])))
added_law n x _ = omega arith

member_law : (n : ℕ) (x : Cell) (c : Content)
    → times n (slots_in (put_member_after x c)) + times n (put_member_leaving x c)
    ≡ times n (slots_in c) + times n (put_member_entering x c)
member_law n x (set_content plain members) = unless_law n plain _ _ _ _ (put_members n (equal_to plain x) x members)
member_law n x (bag_content plain rows) = unless_law n plain _ _ _ _ (put_rows n (equal_to plain x) x rows)
member_law n x _ = omega arith

gone_law : (n : ℕ) (x : Cell) (c : Content)
    → times n (slots_in (removed_member_after x c)) + times n (removed_member_leaving x c)
    ≡ times n (slots_in c) + times n []
gone_law n x (set_content plain members) = unless_none n plain _ _ _ (removed_members n (equal_to plain x) members)
gone_law n x (bag_content plain rows) = unless_none n plain _ _ _ (removed_rows n (equal_to plain x) rows)
gone_law n x _ = omega arith

least_law : (n : ℕ) (c : Content)
    → times n (slots_in (least_after c)) + times n (least_leaving c) ≡ times n (slots_in c) + times n []
least_law n (heap_content plain adds rows) =
    let rank = order_of plain in
    let left = without_least rank rows in
    unless_none n plain (row_ids (by_rank rank left)) (row_ids (option_to_list (least rank rows))) (row_ids (by_rank rank rows))
    (omega (arith, sorted_rows n rank left, sorted_rows n rank rows, least_rows n rank rows))
least_law n _ = omega arith

item_law : (n : ℕ) (valid : Bool) (item : Item) (c : Content) → slots_in (item_after valid item c) ≡ slots_in c
item_law n valid item (item_content handler info v i) = refl
item_law n valid item _ = refl

-- the slots after a change, with what it gives out, are those before it with what it takes in
content_law : (n : ℕ) (change : Change) (c : Content)
    → times n (slots_in (content_after change c)) + times n (going_out change c)
    ≡ times n (slots_in c) + times n (coming_in change c)
content_law n unchanged c = refl
content_law n (in_text e) c = rw (text_law n e c) refl
content_law n (in_data e) c = rw (data_law n e c) refl
content_law n (in_places e) c = places_law n e c
content_law n (put_pair key value) c = pair_law n key value c
content_law n (remove_pair key) c = removed_law n key c
content_law n (add_member x) c = added_law n x c
content_law n (put_member x) c = member_law n x c
content_law n (remove_member x) c = gone_law n x c
content_law n remove_least c = least_law n c
content_law n (in_item valid item) c = rw (item_law n valid item c) refl

pub change_law : (n o : ℕ) (change : Change) (objects : List Object)
    → times n (slots_at (slice_get (with_change o change objects) o))
    + times n (given_out (slice_get objects o) change) ≡ times n (slots_at (slice_get objects o))
    + times n (taken_in (slice_get objects o) change)
change_law n o change [] = refl
change_law n zero change (ob ∷ obs) = content_law n change ob.content
change_law n (suc o) change (ob ∷ obs) = change_law n o change obs

-- the other objects keep theirs
pub others_keep : (o p : ℕ) (change : Change) (objects : List Object) → (o ≡ p → ⊥)
    → slice_get (with_change o change objects) p ≡ slice_get objects p
others_keep o p change [] h = refl
others_keep zero zero change (ob ∷ obs) h = absurd (h refl)
others_keep zero (suc p) change (ob ∷ obs) h = refl
others_keep (suc o) zero change (ob ∷ obs) h = refl
others_keep (suc o) (suc p) change (ob ∷ obs) h = others_keep o p change obs (λ q. h (ap suc q))

-- what a change gives out is among the slots
leaving_most : (n : ℕ) (e : Splice (Option ℕ)) (c : Content) → times n (leaving e c) ≤ times n (slots_in c)
leaving_most n e (instance_content key fields) = removed_most (λ (ps : List (Option ℕ)). times n (present ps)) (times-present n) fields e
leaving_most n e (array_content plain os) = unless_most n plain _ _ (removed_most (times n) (times-append n) os (elements e))
leaving_most n e _ = omega arith

put_most : (n : ℕ) (key : Cell) (c : Content) → times n (put_leaving key c) ≤ times n (slots_in c)
put_most n key (dictionary_content plain pairs) = unless_most n plain _ _ (found_most n (equal_to plain key) pairs)
put_most n key _ = omega arith

pair_most : (n : ℕ) (key : Cell) (c : Content) → times n (removed_leaving key c) ≤ times n (slots_in c)
pair_most n key (dictionary_content plain pairs) = unless_most n plain _ _ (omega (arith, take_law n (equal_to plain key) pairs))
pair_most n key _ = omega arith

member_most : (n : ℕ) (x : Cell) (c : Content) → times n (put_member_leaving x c) ≤ times n (slots_in c)
member_most n x (set_content plain members) = unless_most n plain _ _ (omega (arith, removed_members n (equal_to plain x) members))
member_most n x (bag_content plain rows) = unless_most n plain _ _ (key_most n (equal_to plain x) rows)
member_most n x _ = omega arith

out_most : (n : ℕ) (change : Change) (c : Content) → times n (going_out change c) ≤ times n (slots_in c)
out_most n unchanged c = omega arith
out_most n (in_text e) c = omega arith
out_most n (in_data e) c = omega arith
out_most n (in_places e) c = leaving_most n e c
out_most n (put_pair key value) c = put_most n key c
out_most n (remove_pair key) c = pair_most n key c
out_most n (add_member x) c = omega arith
out_most n (put_member x) c = member_most n x c
out_most n (remove_member x) c = omega (arith, gone_law n x c)
out_most n remove_least c = omega (arith, least_law n c)
out_most n (in_item valid item) c = omega arith

pub given_most : (n : ℕ) (change : Change) (ob : Option Object) → times n (given_out ob change) ≤ times n (slots_at ob)
given_most n change None = omega arith
given_most n change (Some ob) = out_most n change ob.content

-- a new object has no slots
abbrev pub MakesEmpty : Origin → Type 0
MakesEmpty nowhere = Unit {0}
MakesEmpty (fresh ob) = slots_in ob.content ≡ []
MakesEmpty (there o) = Unit {0}

pub slots-more : (objects : List Object) (ob : Object) (b : ℕ) → slots_in ob.content ≡ []
    → slots_at (slice_get (objects ++ ob ∷ []) b) ≡ slots_at (slice_get objects b)
slots-more [] ob zero h = h
slots-more [] ob (suc b) h = refl
slots-more (o ∷ os) ob zero h = refl
slots-more (o ∷ os) ob (suc b) h = slots-more os ob b h

-- ---- what comes in is what a change names

-- the objects that a change names, which may come in
abbrev pub named_in : Change → List ℕ
named_in unchanged = []
named_in (in_text e) = []
named_in (in_data e) = []
named_in (in_places e) = present e.enter
named_in (put_pair key value) = key.id ∷ value ∷ []
named_in (remove_pair key) = []
named_in (add_member element) = element.id ∷ []
named_in (put_member element) = element.id ∷ []
named_in (remove_member element) = []
named_in remove_least = []
named_in (in_item valid item) = []

unless_fewer : (n : ℕ) (plain : Bool) (os : List ℕ) → times n (unless_plain plain os) ≤ times n os
unless_fewer n true os = omega arith
unless_fewer n false os = omega arith

entering_most : (n : ℕ) (e : Splice (Option ℕ)) (c : Content) → times n (entering e c) ≤ times n (present e.enter)
entering_most n e (instance_content key fields) = omega arith
entering_most n e (array_content plain os) = unless_fewer n plain (present e.enter)
entering_most n e _ = omega arith

coming_fewer : (n : ℕ) (known : Bool) (k v : ℕ) → times n (cond known (v ∷ []) (k ∷ v ∷ [])) ≤ times n (k ∷ v ∷ [])
coming_fewer n true k v = omega arith
coming_fewer n false k v = omega arith

coming_most : (n : ℕ) (key : Cell) (value : ℕ) (c : Content)
    → times n (put_entering key value c) ≤ times n (key.id ∷ value ∷ [])
coming_most n key value (dictionary_content plain pairs) =
    let some = coming_fewer n (is_some (lookup (equal_to plain key) pairs)) key.id value in
    omega (arith, some, unless_fewer n plain (coming_by plain pairs key value))
coming_most n key value _ = omega arith

found_fewer : (n : ℕ) (found : Bool) (x : Cell) → times n (unless_found found x) ≤ times n (x.id ∷ [])
found_fewer n true x = omega arith
found_fewer n false x = omega arith

adding_most : (n : ℕ) (x : Cell) (c : Content) → times n (added_entering x c) ≤ times n (x.id ∷ [])
adding_most n x (set_content plain members) =
    let found = list_any (equal_to plain x) members in
    omega (arith, found_fewer n found x, unless_fewer n plain (unless_found found x))
adding_most n x (bag_content plain rows) =
    let found = is_some (lookup (equal_to plain x) rows) in
    omega (arith, found_fewer n found x, unless_fewer n plain (unless_found found x))
adding_most n x (heap_content plain adds rows) = unless_fewer n plain (x.id ∷ [])
adding_most n x _ = omega arith

putting_most : (n : ℕ) (x : Cell) (c : Content) → times n (put_member_entering x c) ≤ times n (x.id ∷ [])
putting_most n x (set_content plain members) = unless_fewer n plain (x.id ∷ [])
putting_most n x (bag_content plain rows) = unless_fewer n plain (x.id ∷ [])
putting_most n x _ = omega arith

in_most : (n : ℕ) (change : Change) (c : Content) → times n (coming_in change c) ≤ times n (named_in change)
in_most n unchanged c = omega arith
in_most n (in_text e) c = omega arith
in_most n (in_data e) c = omega arith
in_most n (in_places e) c = entering_most n e c
in_most n (put_pair key value) c = coming_most n key value c
in_most n (remove_pair key) c = omega arith
in_most n (add_member x) c = adding_most n x c
in_most n (put_member x) c = putting_most n x c
in_most n (remove_member x) c = omega arith
in_most n remove_least c = omega arith
in_most n (in_item valid item) c = omega arith

pub taken_most : (n : ℕ) (change : Change) (ob : Option Object)
    → times n (taken_in ob change) ≤ times n (named_in change)
taken_most n change None = omega arith
taken_most n change (Some ob) = in_most n change ob.content
