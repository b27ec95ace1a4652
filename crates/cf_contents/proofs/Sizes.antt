-- By how much the size of a collection grows: by no more than a change names.
use Rattle.std.proofs.Common.{arith, ◌≡◌, ℕ, zero, suc, ◌+◌, ◌≤◌, Bool, true, false, cond, List, [], ◌∷◌, ◌++◌, length, take, drop, Option, Some, None, refl, length-append}
use Rattle.std.specs.Prelude.{is_some, slice_get}
use Rattle.std.specs.List.{list_any, splice}
use Rattle.std.specs.Map.{lookup, set_value, remove_entry}
use Rattle.std.proofs.lemmas.List.{length-take, length-drop}
use Rattle.std.proofs.lemmas.Map.{length-set_value}
use Rattle.cf_types.specs.declared.cells.Cell.{Cell}
use Rattle.cf_contents.specs.Contents.{Content, text_content, data_content, instance_content, array_content, dictionary_content, set_content, bag_content, heap_content, Object, present, unless_plain, order_of, size_of, size_at, item_content}
use Rattle.cf_contents.specs.Keys.{equal_to}
use Rattle.cf_contents.specs.Deeds.{Splice, Change, unchanged, in_text, in_data, in_places, put_pair, remove_pair, add_member, put_member, remove_member, remove_least, elements, text_after, data_after, places_after, put_after, removed_after, added_after, put_member_after, removed_member_after, least_after, content_after, with_change, objects_after, in_item, item_after, unless_found, entering, coming_by, put_entering, added_entering, put_member_entering, coming_in, taken_in}
use Rattle.cf_contents.specs.Items.{Item}
use Rattle.cf_contents.proofs.SlotLaws.{named_in}
use Rattle.cf_contents.proofs.MemberLaws.{length-members_with, length-members_set, length-members_without, length-without_least, size-added_rows, size-put_rows, size-less_rows}

pub length-splice : {A : Type 0} (xs : List A) (i out : ℕ) (ys : List A)
    → length (splice xs i (i + out) ys) ≤ length xs + length ys
length-splice xs i out ys =
    omega (arith, length-append (take i xs) (ys ++ drop (i + out) xs), length-append ys (drop (i + out) xs), length-take i xs, length-drop (i + out) xs)

pub length-put : (test : Cell → Bool) (key : Cell) (value : ℕ) (pairs : List (Cell × ℕ)) (b : Bool)
    → length (cond b (set_value test pairs value) (pairs ++ (key, value) ∷ [])) ≤ length pairs + 1
length-put test key value pairs true = omega (arith, length-set_value test pairs value)
length-put test key value pairs false = omega (arith, length-append pairs ((key, value) ∷ []))

shorter : (p : Cell × ℕ) (ps rest : List (Cell × ℕ)) (b : Bool) → length rest ≤ length ps
    → length (cond b ps (p ∷ rest)) ≤ suc (length ps)
shorter p ps rest true h = omega arith
shorter p ps rest false h = omega (arith, h)

pub length-removed : (test : Cell → Bool) (pairs : List (Cell × ℕ)) → length (remove_entry test pairs) ≤ length pairs
length-removed test [] = omega arith
length-removed test (p ∷ ps) = shorter p ps (remove_entry test ps) (test p.0) (length-removed test ps)

text_size : (e : Splice ℕ) (c : Content) → size_of (text_after e c) ≤ size_of c
text_size e (text_content true units) = omega arith
text_size e _ = omega arith

data_size : (e : Splice ℕ) (c : Content) → size_of (data_after e c) ≤ size_of c
data_size e (data_content true bytes) = omega arith
data_size e _ = omega arith

places_size : (e : Splice (Option ℕ)) (c : Content)
    → size_of (places_after e c) ≤ size_of c + length (named_in (in_places e))
places_size e (instance_content key fields) = omega arith
places_size e (array_content plain os) = length-splice os e.at e.out (elements e).enter
places_size e _ = omega arith

put_size : (key : Cell) (value : ℕ) (c : Content) → size_of (put_after key value c) ≤ size_of c + 2
put_size key value (dictionary_content plain pairs) =
    omega (arith, length-put (equal_to plain key) key value pairs (is_some (lookup (equal_to plain key) pairs)))
put_size key value _ = omega arith

-- a change adds one member at most to a collection
abbrev pub AddsOne : Change → Type 0
AddsOne (in_places e) = length (present e.enter) ≤ 1
AddsOne _ = Unit {0}

places_one : (e : Splice (Option ℕ)) (c : Content) → length (present e.enter) ≤ 1
    → size_of (places_after e c) ≤ size_of c + 1
places_one e (instance_content key fields) one = omega arith
places_one e (array_content plain os) one = omega (arith, length-splice os e.at e.out (elements e).enter, one)
places_one e _ one = omega arith

put_one : (key : Cell) (value : ℕ) (c : Content) → size_of (put_after key value c) ≤ size_of c + 1
put_one key value (dictionary_content plain pairs) =
    length-put (equal_to plain key) key value pairs (is_some (lookup (equal_to plain key) pairs))
put_one key value _ = omega arith

removed_size : (key : Cell) (c : Content) → size_of (removed_after key c) ≤ size_of c
removed_size key (dictionary_content plain pairs) = length-removed (equal_to plain key) pairs
removed_size key _ = omega arith

pub added_size : (x : Cell) (c : Content) → size_of (added_after x c) ≤ size_of c + 1
added_size x (set_content plain members) = length-members_with (equal_to plain x) x members (list_any (equal_to plain x) members)
added_size x (bag_content plain rows) = size-added_rows (equal_to plain x) x rows (lookup (equal_to plain x) rows) refl
added_size x (heap_content plain adds rows) = omega (arith, length-append rows ((x, adds) ∷ []))
added_size x _ = omega arith

pub member_size : (x : Cell) (c : Content) → size_of (put_member_after x c) ≤ size_of c + 1
member_size x (set_content plain members) = length-members_set (equal_to plain x) x members (list_any (equal_to plain x) members)
member_size x (bag_content plain rows) = size-put_rows (equal_to plain x) x rows (is_some (lookup (equal_to plain x) rows))
member_size x _ = omega arith

pub gone_size : (x : Cell) (c : Content) → size_of (removed_member_after x c) ≤ size_of c
gone_size x (set_content plain members) = length-members_without (equal_to plain x) members
gone_size x (bag_content plain rows) = size-less_rows (equal_to plain x) rows (lookup (equal_to plain x) rows) refl
gone_size x _ = omega arith

pub least_size : (c : Content) → size_of (least_after c) ≤ size_of c
least_size (heap_content plain adds rows) = omega (arith, length-without_least (order_of plain) rows)
least_size _ = omega arith

item_size : (valid : Bool) (item : Item) (c : Content) → size_of (item_after valid item c) ≤ size_of c
item_size valid item (item_content handler info v i) = omega arith
item_size valid item _ = omega arith

content_size : (change : Change) (c : Content)
    → size_of (content_after change c) ≤ size_of c + length (named_in change)
content_size unchanged c = omega arith
content_size (in_text e) c = omega (arith, text_size e c)
content_size (in_data e) c = omega (arith, data_size e c)
content_size (in_places e) c = places_size e c
content_size (put_pair key value) c = put_size key value c
content_size (remove_pair key) c = omega (arith, removed_size key c)
content_size (add_member x) c = added_size x c
content_size (put_member x) c = member_size x c
content_size (remove_member x) c = omega (arith, gone_size x c)
content_size remove_least c = omega (arith, least_size c)
content_size (in_item valid item) c = omega (arith, item_size valid item c)

one_size : (change : Change) (c : Content) → AddsOne change → size_of (content_after change c) ≤ size_of c + 1
one_size unchanged c one = omega arith
one_size (in_text e) c one = omega (arith, text_size e c)
one_size (in_data e) c one = omega (arith, data_size e c)
one_size (in_places e) c one = places_one e c one
one_size (put_pair key value) c one = put_one key value c
one_size (remove_pair key) c one = omega (arith, removed_size key c)
one_size (add_member x) c one = added_size x c
one_size (put_member x) c one = member_size x c
one_size (remove_member x) c one = omega (arith, gone_size x c)
one_size remove_least c one = omega (arith, least_size c)
one_size (in_item valid item) c one = omega (arith, item_size valid item c)

one_more : (o : ℕ) (change : Change) (objects : List Object) (p : ℕ) → AddsOne change
    → size_at (slice_get (with_change o change objects) p) ≤ size_at (slice_get objects p) + 1
one_more o change [] p one = omega arith
one_more zero change (ob ∷ obs) zero one = one_size change ob.content one
one_more zero change (ob ∷ obs) (suc p) one = omega arith
one_more (suc o) change (ob ∷ obs) zero one = omega arith
one_more (suc o) change (ob ∷ obs) (suc p) one = one_more o change obs p one

-- the size of each object after a change of one of them that adds one member at most
pub size-one_more : (o : Option ℕ) (change : Change) (objects : List Object) (p : ℕ) → AddsOne change
    → size_at (slice_get (objects_after o change objects) p) ≤ size_at (slice_get objects p) + 1
size-one_more None change objects p one = omega arith
size-one_more (Some o) change objects p one = one_more o change objects p one

change_size : (o : ℕ) (change : Change) (objects : List Object) (p : ℕ)
    → size_at (slice_get (with_change o change objects) p) ≤ size_at (slice_get objects p) + length (named_in change)
change_size o change [] p = omega arith
change_size zero change (ob ∷ obs) zero = content_size change ob.content
change_size zero change (ob ∷ obs) (suc p) = omega arith
change_size (suc o) change (ob ∷ obs) zero = omega arith
change_size (suc o) change (ob ∷ obs) (suc p) = change_size o change obs p

-- the size of each object after a change of one of them, and where one is made
pub size-objects_after : (o : Option ℕ) (change : Change) (objects : List Object) (p : ℕ)
    → size_at (slice_get (objects_after o change objects) p) ≤ size_at (slice_get objects p) + length (named_in change)
size-objects_after None change objects p = omega arith
size-objects_after (Some o) change objects p = change_size o change objects p

pub size-more : (objects : List Object) (ob : Object) (p : ℕ) → size_of ob.content ≡ 0
    → size_at (slice_get (objects ++ ob ∷ []) p) ≤ size_at (slice_get objects p)
size-more [] ob zero small = omega (arith, small)
size-more [] ob (suc p) small = omega arith
size-more (o ∷ os) ob zero small = omega arith
size-more (o ∷ os) ob (suc p) small = size-more os ob p small

-- ---- a change takes in no more than it names

unless_most : (plain : Bool) (os : List ℕ) → length (unless_plain plain os) ≤ length os
unless_most true os = omega arith
unless_most false os = omega arith

found_one : (found : Bool) (x : Cell) → length (unless_found found x) ≤ 1
found_one true x = omega arith
found_one false x = omega arith

entering_few : (e : Splice (Option ℕ)) (c : Content) → length (entering e c) ≤ length (present e.enter)
entering_few e (instance_content key fields) = omega arith
entering_few e (array_content plain os) = unless_most plain (present e.enter)
entering_few e _ = omega arith

coming_two : (known : Bool) (k v : ℕ) → length (cond known (v ∷ []) (k ∷ v ∷ [])) ≤ 2
coming_two true k v = omega arith
coming_two false k v = omega arith

coming_few : (key : Cell) (value : ℕ) (c : Content) → length (put_entering key value c) ≤ 2
coming_few key value (dictionary_content plain pairs) =
    let some = coming_two (is_some (lookup (equal_to plain key) pairs)) key.id value in
    omega (arith, some, unless_most plain (coming_by plain pairs key value))
coming_few key value _ = omega arith

adding_few : (x : Cell) (c : Content) → length (added_entering x c) ≤ 1
adding_few x (set_content plain members) =
    let found = list_any (equal_to plain x) members in
    omega (arith, found_one found x, unless_most plain (unless_found found x))
adding_few x (bag_content plain rows) =
    let found = is_some (lookup (equal_to plain x) rows) in
    omega (arith, found_one found x, unless_most plain (unless_found found x))
adding_few x (heap_content plain adds rows) = unless_most plain (x.id ∷ [])
adding_few x _ = omega arith

putting_few : (x : Cell) (c : Content) → length (put_member_entering x c) ≤ 1
putting_few x (set_content plain members) = unless_most plain (x.id ∷ [])
putting_few x (bag_content plain rows) = unless_most plain (x.id ∷ [])
putting_few x _ = omega arith

in_few : (change : Change) (c : Content) → length (coming_in change c) ≤ length (named_in change)
in_few unchanged c = omega arith
in_few (in_text e) c = omega arith
in_few (in_data e) c = omega arith
in_few (in_places e) c = entering_few e c
in_few (put_pair key value) c = coming_few key value c
in_few (remove_pair key) c = omega arith
in_few (add_member x) c = adding_few x c
in_few (put_member x) c = putting_few x c
in_few (remove_member x) c = omega arith
in_few remove_least c = omega arith
in_few (in_item valid item) c = omega arith

pub taken_few : (change : Change) (ob : Option Object) → length (taken_in ob change) ≤ length (named_in change)
taken_few change None = omega arith
taken_few change (Some ob) = in_few change ob.content
