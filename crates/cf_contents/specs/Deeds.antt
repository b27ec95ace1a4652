-- Each form as data: what it answers, what it binds, and what it does to contents, by the objects that it uses. All
-- that a step does comes from this data, so a further form adds a line. This project's own, after the reference.
use Rattle.std.specs.Prelude.{ℕ, zero, suc, ◌+◌, ◌==◌, pos, Bool, true, false, List, [], ◌∷◌, ◌++◌, length, find, take, drop, Option, Some, None, is_some, slice_get, nat_lt, nat_le, if◌then◌else◌}
use Rattle.std.specs.List.{list_any, splice}
use Rattle.std.specs.Map.{lookup, lookup_entry, lookup_key, remove_entry, set_value}
use Rattle.std.specs.Option.{option_map, option_to_list}
use Rattle.cf_ids.specs.declared.answer.Answer.{Answer}
use Rattle.cf_ids.specs.declared.answer.Answer.TheVariants as answers
use Rattle.cf_number.specs.declared.kinds.NumKind.{NumKind}
use Rattle.cf_number.specs.Kinds.{fits_kind}
use Rattle.cf_number.specs.Numbers.{Number}
use Rattle.cf_string.specs.declared.faults.StrFault.{StrFault}
use Rattle.cf_string.specs.declared.faults.StrFault.TheVariants.{Range, SplitsPair}
use Rattle.cf_string.specs.Faults.{split_fault}
use Rattle.cf_types.specs.declared.cells.Cell.{Cell}
use Rattle.cf_basichash.specs.Members.{members_with, members_set, members_without, rows_set, rows_without}
use Rattle.cf_basichash.specs.Tables.{pairs_with}
use Rattle.cf_callbacks.specs.Ranking.{least, without_least}
use Rattle.cf_syntax.specs.declared.script.ClassLine.{ClassLine}
use Rattle.cf_syntax.specs.declared.statement.Statement.{Statement}
use Rattle.cf_syntax.specs.declared.statement.Statement.TheVariants as forms
use Rattle.cf_contents.specs.Contents.{Content, text_content, data_content, number_content, instance_content, array_content, dictionary_content, set_content, bag_content, heap_content, Object, present, flat, ids_of, row_ids, numbered_row, least_of, order_of, unless_plain, string_class, data_class, number_class, array_class, dictionary_class, set_class, bag_class, heap_class, instance_of, item_content}
pub use Rattle.cf_syntax.specs.Mentions.{used_at, first_of}
use Rattle.cf_contents.specs.Items.{Item}
use Rattle.cf_contents.specs.Keys.{Numbered, numbered, class_line, cell_of, equal_to}
use Rattle.cf_contents.specs.Descriptions.{description}

-- where the object comes from that a statement binds: there is none, and the variable is empty; it is new; or it is
-- there, and the variable is empty too where that object is finalised
pub data Origin : Type 0 where
  nowhere : Origin
  fresh : Object → Origin
  there : ℕ → Origin

-- an edit of a list: from a place on so many go out, and others come in there
pub record Splice (A : Type 0) : Type 0 where
  pub at : ℕ
  pub out : ℕ
  pub enter : List A

-- what becomes of the first object that a statement uses: nothing; an edit of its text, of its bytes, or of its fields
-- or elements; a pair that is put in, its value alone if its key is there; a pair that is removed by its key; an
-- element that is added to a set, a bag or a heap; a member that is put in place of its equal; one of the members
-- equal to an element that is removed; the least element of a heap that is removed; or an item of a run loop that is
-- valid or not from now on, and is as this one
pub data Change : Type 0 where
  unchanged : Change
  in_text : Splice ℕ → Change
  in_data : Splice ℕ → Change
  in_places : Splice (Option ℕ) → Change
  put_pair : (key : Cell) (value : ℕ) → Change
  remove_pair : (key : Cell) → Change
  add_member : (element : Cell) → Change
  put_member : (element : Cell) → Change
  remove_member : (element : Cell) → Change
  remove_least : Change
  in_item : (valid : Bool) → Item → Change

-- what a statement answers if nothing else decides its answer, what it binds, and what it changes
pub record Deed : Type 0 where
  pub answer : Answer
  pub origin : Origin
  pub change : Change

-- the deed that answers, and does nothing else
abbrev pub answering : Answer → Deed
answering a = record { answer = a; origin = nowhere; change = unchanged }

-- the deed of a statement that found nothing to act on
abbrev pub skipping : Deed
skipping = answering answers.Skip

-- the deed that makes an object of a type with this content
abbrev pub creating : ℕ → Content → Deed
creating class content =
    record { answer = answers.Skip; origin = fresh (record { class = class; content = content }); change = unchanged }

-- the deed that changes the first object that is used
abbrev pub changing : Answer → Change → Deed
changing a change = record { answer = a; origin = nowhere; change = change }

-- the deed that binds an object, if one is found; it stays where it is
abbrev pub binding : Option ℕ → Deed
binding None = answering answers.Nil
binding (Some o) = record { answer = answers.Nil; origin = there o; change = unchanged }

-- a deed by an object; without one the statement is skipped. The words below do the same with what the object is: if
-- it is of another kind, the statement is skipped
abbrev pub with_object : Option Numbered → (Numbered → Deed) → Deed
with_object None deed = skipping
with_object (Some u) deed = deed u

-- a deed by an object as a key; without an object the statement is skipped
abbrev pub with_key : List ClassLine → Option Numbered → (Cell → Deed) → Deed
with_key classes None deed = skipping
with_key classes (Some u) deed = deed (cell_of classes u)

-- a deed by the units of a text
abbrev pub text_in : Content → (List ℕ → Deed) → Deed
text_in (text_content mutable units) deed = deed units
text_in _ deed = skipping

-- a deed by the units of a mutable text
abbrev pub mutable_text_in : Content → (List ℕ → Deed) → Deed
mutable_text_in (text_content true units) deed = deed units
mutable_text_in _ deed = skipping

-- a deed by the bytes of mutable data
abbrev pub mutable_data_in : Content → (List ℕ → Deed) → Deed
mutable_data_in (data_content true bytes) deed = deed bytes
mutable_data_in _ deed = skipping

-- a deed by a number
abbrev pub number_in : Content → (Number → Deed) → Deed
number_in (number_content n) deed = deed n
number_in _ deed = skipping

-- a deed by the fields of an instance
abbrev pub fields_in : Content → (List (Option ℕ) → Deed) → Deed
fields_in (instance_content key fields) deed = deed fields
fields_in _ deed = skipping

-- a deed by the elements of an array
abbrev pub elements_in : Content → (List ℕ → Deed) → Deed
elements_in (array_content plain elements) deed = deed elements
elements_in _ deed = skipping

-- a deed by the pairs of a dictionary, and by whether it is plain
abbrev pub pairs_in : Content → (Bool → List (Cell × ℕ) → Deed) → Deed
pairs_in (dictionary_content plain pairs) deed = deed plain pairs
pairs_in _ deed = skipping

-- a deed by the rows of a heap, and by whether it is plain
abbrev pub heap_in : Content → (Bool → List (Cell × ℕ) → Deed) → Deed
heap_in (heap_content plain adds rows) deed = deed plain rows
heap_in _ deed = skipping

-- a member as a row: it is there once
abbrev pub once : Cell → ℕ × ℕ
once member = (member.id, 1)

-- the row of the member that is equal to an element, in a set
abbrev pub row_in_set : Bool → List Cell → Cell → Option (ℕ × ℕ)
row_in_set plain members element = option_map once (find (equal_to plain element) members)

-- the row of the member that is equal to an element, in a bag
abbrev pub row_in_bag : Bool → List (Cell × ℕ) → Cell → Option (ℕ × ℕ)
row_in_bag plain rows element = option_map numbered_row (lookup_entry (equal_to plain element) rows)

-- by whether a collection counts its members, and the row that an element has in it
abbrev pub members_in : Content → (Bool → (Cell → Option (ℕ × ℕ)) → Deed) → Deed
members_in (set_content plain members) deed = deed false (row_in_set plain members)
members_in (bag_content plain rows) deed = deed true (row_in_bag plain rows)
members_in _ deed = skipping

-- a deed by the text of an object
abbrev pub with_text : Option Numbered → (List ℕ → Deed) → Deed
with_text o deed = with_object o (λ u. text_in u.object.content deed)

-- a deed by the text of an object that is mutable
abbrev pub with_mutable_text : Option Numbered → (List ℕ → Deed) → Deed
with_mutable_text o deed = with_object o (λ u. mutable_text_in u.object.content deed)

-- a deed by the bytes of an object that is mutable
abbrev pub with_mutable_data : Option Numbered → (List ℕ → Deed) → Deed
with_mutable_data o deed = with_object o (λ u. mutable_data_in u.object.content deed)

-- a deed by the number of an object
abbrev pub with_number : Option Numbered → (Number → Deed) → Deed
with_number o deed = with_object o (λ u. number_in u.object.content deed)

-- a deed by the fields of an object
abbrev pub with_fields : Option Numbered → (List (Option ℕ) → Deed) → Deed
with_fields o deed = with_object o (λ u. fields_in u.object.content deed)

-- a deed by the elements of an object
abbrev pub with_elements : Option Numbered → (List ℕ → Deed) → Deed
with_elements o deed = with_object o (λ u. elements_in u.object.content deed)

-- a deed by a key, and by the value of the one that is equal to it, if it is there
abbrev pub with_pair : List ClassLine → (dictionary key : Option Numbered) → (Cell → Option ℕ → Deed) → Deed
with_pair classes dictionary key deed =
    with_object dictionary
    (λ u. pairs_in u.object.content (λ plain pairs. with_key classes key (λ cell. deed cell (lookup (equal_to plain cell) pairs))))

-- by the row that an element has in a set or a bag, where there is one, by the element, and by whether it is a bag
abbrev pub with_member : List ClassLine → (collection element : Option Numbered)
    → (Bool → Cell → Option (ℕ × ℕ) → Deed) → Deed
with_member classes collection element deed =
    with_object collection
    (λ u. members_in u.object.content (λ counts row_of. with_key classes element (λ cell. deed counts cell (row_of cell))))

-- by the rows of a heap
abbrev pub with_heap : Option Numbered → (Bool → List (Cell × ℕ) → Deed) → Deed
with_heap o deed = with_object o (λ u. heap_in u.object.content deed)

-- a deed on a range of a text, unless the range passes its length or cuts a surrogate pair
abbrev pub unless_split : Option StrFault → Deed → Deed
unless_split None deed = deed
unless_split (Some Range) deed = answering answers.Range
unless_split (Some SplitsPair) deed = answering answers.Split
unless_split (Some _) deed = skipping

-- a deed if a test holds; else a place or a range passes the length
abbrev pub within : Bool → Deed → Deed
within test deed = if test then deed else answering answers.Range

-- the `len` units from `at` on are replaced by others
abbrev pub text_edit : List ℕ → ℕ → ℕ → List ℕ → Deed
text_edit units at len other =
    unless_split (split_fault units at len)
    (changing answers.Ok (in_text (record { at = at; out = len; enter = other })))

-- the `len` bytes from `at` on are replaced by others
abbrev pub data_edit : List ℕ → ℕ → ℕ → List ℕ → Deed
data_edit bytes at len other =
    within (nat_le (at + len) (length bytes))
    (changing answers.Ok (in_data (record { at = at; out = len; enter = other })))

-- so many fields or elements from a place on are replaced by an object, by nothing in a field, or by no element
abbrev pub places_edit : ℕ → ℕ → List (Option ℕ) → Deed
places_edit at out enter = changing answers.Ok (in_places (record { at = at; out = out; enter = enter }))

-- the units of a range are made a new string
abbrev pub part_of : List ℕ → ℕ → ℕ → Deed
part_of units at len =
    unless_split (split_fault units at len) (creating string_class (text_content false (take len (drop at units))))

-- a number is read as one of a kind, or the value does not fit
abbrev pub as_kind : NumKind → Number → Deed
as_kind kind n = if fits_kind kind n.value then answering (answers.Number n.value) else answering answers.Lossy

-- an object is made, if there is one to make; else the statement is skipped
abbrev pub fresh_if : Option Object → Deed
fresh_if None = skipping
fresh_if (Some o) = record { answer = answers.Skip; origin = fresh o; change = unchanged }

-- a key and an object are put in as a pair, with this answer
abbrev pub putting : Answer → Cell → ℕ → Deed
putting a key value = changing a (put_pair key value)

-- a pair is added, unless its key is there
abbrev pub adding_pair : Cell → ℕ → Option ℕ → Deed
adding_pair key value None = putting answers.Ok key value
adding_pair key value (Some old) = answering answers.Present

-- a pair is set: the answer says whether its key was there
abbrev pub setting_pair : Cell → ℕ → Option ℕ → Deed
setting_pair key value None = putting answers.Added key value
setting_pair key value (Some old) = putting answers.Changed key value

-- the value of a key is replaced, if the key is there
abbrev pub replacing_pair : Cell → ℕ → Option ℕ → Deed
replacing_pair key value None = answering answers.Absent
replacing_pair key value (Some old) = putting answers.Ok key value

-- the pair of a key is removed, if the key is there
abbrev pub removing_pair : Cell → Option ℕ → Deed
removing_pair key None = answering answers.Absent
removing_pair key (Some old) = changing answers.Ok (remove_pair key)

-- an element is added to a set or a bag, by its row there: a set takes no second one
abbrev pub adding_member : Bool → Cell → Option (ℕ × ℕ) → Deed
adding_member counts element None = changing answers.Ok (add_member element)
adding_member counts element (Some row) =
    if counts then changing answers.Ok (add_member element) else answering answers.Present

-- a member is set: the answer says whether an equal one was there
abbrev pub setting_member : Cell → Option (ℕ × ℕ) → Deed
setting_member element None = changing answers.Added (put_member element)
setting_member element (Some row) = changing answers.Changed (put_member element)

-- the member that is equal is replaced, if there is one
abbrev pub replacing_member : Cell → Option (ℕ × ℕ) → Deed
replacing_member element None = answering answers.Absent
replacing_member element (Some row) = changing answers.Ok (put_member element)

-- one of the members that are equal is removed, if there is one
abbrev pub removing_member : Cell → Option (ℕ × ℕ) → Deed
removing_member element None = answering answers.Absent
removing_member element (Some row) = changing answers.Ok (remove_member element)

-- how many of the members are equal
abbrev pub counting_member : Option (ℕ × ℕ) → Deed
counting_member None = answering (answers.Number (pos 0))
counting_member (Some row) = answering (answers.Number (pos row.1))

-- the object of a row, if there is one
abbrev pub object_in_row : Option (ℕ × ℕ) → Option ℕ
object_in_row None = None
object_in_row (Some row) = Some row.0

-- the removal of the least element of a heap
abbrev pub removing_least : Option ℕ → Deed
removing_least None = answering answers.Empty
removing_least (Some o) = changing answers.Ok remove_least

-- the object in a field, if there is one
abbrev pub in_field : Option (Option ℕ) → Option ℕ
in_field None = None
in_field (Some field) = field

-- the deed of a statement, by the classes of the script and by the objects that it uses. Forms over run loops and
-- notices do nothing to bodies but what a step says
abbrev pub deed_of : List ClassLine → Statement → (first second third : Option Numbered) → Deed
deed_of classes (forms.MakeString v text) a b c = creating string_class (text_content false text)
deed_of classes (forms.MakeMstring v text) a b c = creating string_class (text_content true text)
deed_of classes (forms.MakeData v bytes) a b c = creating data_class (data_content false bytes)
deed_of classes (forms.MakeMdata v bytes) a b c = creating data_class (data_content true bytes)
deed_of classes (forms.MakeNumber v n) a b c = creating number_class (number_content n)
deed_of classes (forms.MakeArray v plain) a b c = creating array_class (array_content plain [])
deed_of classes (forms.MakeDict v plain) a b c = creating dictionary_class (dictionary_content plain [])
deed_of classes (forms.MakeSet v plain) a b c = creating set_class (set_content plain [])
deed_of classes (forms.MakeBag v plain) a b c = creating bag_class (bag_content plain [])
deed_of classes (forms.MakeHeap v plain) a b c = creating heap_class (heap_content plain 0 [])
deed_of classes (forms.New v None key) a b c = skipping
deed_of classes (forms.New v (Some class) key) a b c = fresh_if (instance_of class key (class_line classes class))
deed_of classes (forms.Retain v) a b c = answering answers.Ok
deed_of classes (forms.Release v) a b c = answering answers.Ok
deed_of classes (forms.Show v) a b c = with_object a (λ u. answering (answers.Shown (description classes u.object)))
deed_of classes (forms.StrAppend v other) a b c =
    with_mutable_text a (λ units. with_text b (λ more. text_edit units (length units) 0 more))
deed_of classes (forms.StrInsert v at text) a b c = with_mutable_text a (λ units. text_edit units at 0 text)
deed_of classes (forms.StrDelete v at len) a b c = with_mutable_text a (λ units. text_edit units at len [])
deed_of classes (forms.StrReplace v at len text) a b c = with_mutable_text a (λ units. text_edit units at len text)
deed_of classes (forms.StrSub v text at len) a b c = with_text a (λ units. part_of units at len)
deed_of classes (forms.DataAppend v bytes) a b c = with_mutable_data a (λ old. data_edit old (length old) 0 bytes)
deed_of classes (forms.DataReplace v at len bytes) a b c = with_mutable_data a (λ old. data_edit old at len bytes)
deed_of classes (forms.DataDelete v at len) a b c = with_mutable_data a (λ old. data_edit old at len [])
deed_of classes (forms.NumAs v kind) a b c = with_number a (as_kind kind)
deed_of classes (forms.ArrAppend v x) a b c =
    with_elements a (λ os. with_object b (λ u. places_edit (length os) 0 (Some u.number ∷ [])))
deed_of classes (forms.ArrInsert v at x) a b c =
    with_elements a (λ os. with_object b (λ u. within (nat_le at (length os)) (places_edit at 0 (Some u.number ∷ []))))
deed_of classes (forms.ArrSet v at x) a b c =
    with_elements a (λ os. with_object b (λ u. within (nat_le at (length os)) (places_edit at 1 (Some u.number ∷ []))))
deed_of classes (forms.ArrRemove v at) a b c =
    with_elements a (λ os. within (nat_lt at (length os)) (places_edit at 1 []))
deed_of classes (forms.ArrTake v array at) a b c = with_elements a (λ os. binding (slice_get os at))
deed_of classes (forms.DictAdd v k x) a b c =
    with_pair classes a b (λ key old. with_object c (λ u. adding_pair key u.number old))
deed_of classes (forms.DictSet v k x) a b c =
    with_pair classes a b (λ key old. with_object c (λ u. setting_pair key u.number old))
deed_of classes (forms.DictReplace v k x) a b c =
    with_pair classes a b (λ key old. with_object c (λ u. replacing_pair key u.number old))
deed_of classes (forms.DictRemove v k) a b c = with_pair classes a b removing_pair
deed_of classes (forms.DictTake v dictionary k) a b c = with_pair classes a b (λ key old. binding old)
deed_of classes (forms.SetAdd v x) a b c = with_member classes a b adding_member
deed_of classes (forms.SetSet v x) a b c = with_member classes a b (λ counts element row. setting_member element row)
deed_of classes (forms.SetReplace v x) a b c =
    with_member classes a b (λ counts element row. replacing_member element row)
deed_of classes (forms.SetRemove v x) a b c =
    with_member classes a b (λ counts element row. removing_member element row)
deed_of classes (forms.SetCount v x) a b c = with_member classes a b (λ counts element row. counting_member row)
deed_of classes (forms.SetTake v set x) a b c =
    with_member classes a b (λ counts element row. binding (object_in_row row))
deed_of classes (forms.HeapAdd v x) a b c =
    with_heap a (λ plain rows. with_key classes b (λ element. changing answers.Ok (add_member element)))
deed_of classes (forms.HeapTake v heap) a b c = with_heap a (λ plain rows. binding (least_of plain rows))
deed_of classes (forms.HeapRemove v) a b c = with_heap a (λ plain rows. removing_least (least_of plain rows))
deed_of classes (forms.FieldSet v at x) a b c =
    with_fields a
    (λ fields. with_object b (λ u. within (nat_lt at (length fields)) (places_edit at 1 (Some u.number ∷ []))))
deed_of classes (forms.FieldClear v at) a b c =
    with_fields a (λ fields. within (nat_lt at (length fields)) (places_edit at 1 (None ∷ [])))
deed_of classes (forms.FieldTake v instance at) a b c =
    with_fields a (λ fields. binding (in_field (slice_get fields at)))
deed_of classes _ a b c = skipping

-- an object by its number, if there is one
abbrev pub object_of : List Object → Option ℕ → Option Object
object_of objects None = None
object_of objects (Some o) = slice_get objects o

-- the deed of a statement among objects, by the numbers of those that it uses
abbrev pub deed_at : List ClassLine → List Object → Statement → List (Option ℕ) → Deed
deed_at classes objects s used =
    deed_of classes s (numbered objects (used_at used 0)) (numbered objects (used_at used 1)) (numbered objects (used_at used 2))

-- a list after an edit
abbrev pub splice_of : {A : Type 0} → List A → Splice A → List A
splice_of xs e = splice xs e.at (e.at + e.out) e.enter

-- what an edit takes out of a list
abbrev pub splice_out : {A : Type 0} → List A → Splice A → List A
splice_out xs e = take e.out (drop e.at xs)

-- an edit of fields as one of elements: nothing comes in for what is empty
abbrev pub elements : Splice (Option ℕ) → Splice ℕ
elements e = record { at = e.at; out = e.out; enter = present e.enter }

-- what comes in as a pair is put in: its value, and its key too if that is not there
abbrev pub coming_by : Bool → List (Cell × ℕ) → Cell → ℕ → List ℕ
coming_by plain pairs key value =
    if is_some (lookup (equal_to plain key) pairs) then value ∷ [] else key.id ∷ value ∷ []

-- what goes out as a pair is put in: the old value, if its key is there
abbrev pub going_by : Bool → List (Cell × ℕ) → Cell → List ℕ
going_by plain pairs key = option_to_list (lookup (equal_to plain key) pairs)

-- a text after an edit: only a mutable one is edited
abbrev pub text_after : Splice ℕ → Content → Content
text_after e (text_content true units) = text_content true (splice_of units e)
text_after e c = c

-- data after an edit: only mutable data is edited
abbrev pub data_after : Splice ℕ → Content → Content
data_after e (data_content true bytes) = data_content true (splice_of bytes e)
data_after e c = c

-- fields or elements after an edit
abbrev pub places_after : Splice (Option ℕ) → Content → Content
places_after e (instance_content key fields) = instance_content key (splice_of fields e)
places_after e (array_content plain os) = array_content plain (splice_of os (elements e))
places_after e c = c

-- the objects that an edit of places takes in
abbrev pub entering : Splice (Option ℕ) → Content → List ℕ
entering e (instance_content key fields) = present e.enter
entering e (array_content plain os) = unless_plain plain (present e.enter)
entering e _ = []

-- the objects that an edit of places gives out
abbrev pub leaving : Splice (Option ℕ) → Content → List ℕ
leaving e (instance_content key fields) = present (splice_out fields e)
leaving e (array_content plain os) = unless_plain plain (splice_out os (elements e))
leaving e _ = []

-- the pairs after one is put in
abbrev pub put_after : Cell → ℕ → Content → Content
put_after key value (dictionary_content plain pairs) =
    dictionary_content plain (pairs_with (equal_to plain key) pairs key value)
put_after key value c = c

-- the objects that a pair which is put in takes in
abbrev pub put_entering : Cell → ℕ → Content → List ℕ
put_entering key value (dictionary_content plain pairs) = unless_plain plain (coming_by plain pairs key value)
put_entering key value _ = []

-- the objects that a pair which is put in gives out
abbrev pub put_leaving : Cell → Content → List ℕ
put_leaving key (dictionary_content plain pairs) = unless_plain plain (going_by plain pairs key)
put_leaving key _ = []

-- the pairs after one is removed
abbrev pub removed_after : Cell → Content → Content
removed_after key (dictionary_content plain pairs) = dictionary_content plain (remove_entry (equal_to plain key) pairs)
removed_after key c = c

-- the objects that a pair which is removed gives out
abbrev pub removed_leaving : Cell → Content → List ℕ
removed_leaving key (dictionary_content plain pairs) =
    unless_plain plain (flat (option_to_list (lookup_entry (equal_to plain key) pairs)))
removed_leaving key _ = []

-- the rows of a bag with one more of an element: the member that is there stays
abbrev pub rows_with_one_more : (Cell → Bool) → List (Cell × ℕ) → Cell → Option ℕ → List (Cell × ℕ)
rows_with_one_more test rows element None = rows ++ (element, 1) ∷ []
rows_with_one_more test rows element (Some n) = set_value test rows (n + 1)

-- a set, a bag or a heap after an element is added
abbrev pub added_after : Cell → Content → Content
added_after element (set_content plain members) =
    set_content plain (members_with (equal_to plain element) members element)
added_after element (bag_content plain rows) =
    bag_content plain (rows_with_one_more (equal_to plain element) rows element (lookup (equal_to plain element) rows))
added_after element (heap_content plain adds rows) = heap_content plain (adds + 1) (rows ++ (element, adds) ∷ [])
added_after element c = c

-- what comes in: the element, where none is equal to it
abbrev pub unless_found : Bool → Cell → List ℕ
unless_found found element = if found then [] else element.id ∷ []

-- the objects that an element which is added takes in
abbrev pub added_entering : Cell → Content → List ℕ
added_entering element (set_content plain members) =
    unless_plain plain (unless_found (list_any (equal_to plain element) members) element)
added_entering element (bag_content plain rows) =
    unless_plain plain (unless_found (is_some (lookup (equal_to plain element) rows)) element)
added_entering element (heap_content plain adds rows) = unless_plain plain (element.id ∷ [])
added_entering element _ = []

-- a set or a bag after a member is put in the place of its equal
abbrev pub put_member_after : Cell → Content → Content
put_member_after element (set_content plain members) =
    set_content plain (members_set (equal_to plain element) members element)
put_member_after element (bag_content plain rows) = bag_content plain (rows_set (equal_to plain element) rows element)
put_member_after element c = c

-- the objects that a member which is put in takes in
abbrev pub put_member_entering : Cell → Content → List ℕ
put_member_entering element (set_content plain members) = unless_plain plain (element.id ∷ [])
put_member_entering element (bag_content plain rows) = unless_plain plain (element.id ∷ [])
put_member_entering element _ = []

-- the objects that a member which is put in gives out: its equal, if there is one
abbrev pub put_member_leaving : Cell → Content → List ℕ
put_member_leaving element (set_content plain members) =
    unless_plain plain (ids_of (option_to_list (find (equal_to plain element) members)))
put_member_leaving element (bag_content plain rows) =
    unless_plain plain (ids_of (option_to_list (lookup_key (equal_to plain element) rows)))
put_member_leaving element _ = []

-- a set or a bag after one of the members that are equal is removed
abbrev pub removed_member_after : Cell → Content → Content
removed_member_after element (set_content plain members) =
    set_content plain (members_without (equal_to plain element) members)
removed_member_after element (bag_content plain rows) = bag_content plain (rows_without (equal_to plain element) rows)
removed_member_after element c = c

-- the member of a row goes out where none is left
abbrev pub if_last : Option (Cell × ℕ) → List ℕ
if_last None = []
if_last (Some row) = if row.1 == 1 then row.0.id ∷ [] else []

-- the objects that a member which is removed gives out
abbrev pub removed_member_leaving : Cell → Content → List ℕ
removed_member_leaving element (set_content plain members) =
    unless_plain plain (ids_of (option_to_list (find (equal_to plain element) members)))
removed_member_leaving element (bag_content plain rows) =
    unless_plain plain (if_last (lookup_entry (equal_to plain element) rows))
removed_member_leaving element _ = []

-- a heap after its least element is removed
abbrev pub least_after : Content → Content
least_after (heap_content plain adds rows) = heap_content plain adds (without_least (order_of plain) rows)
least_after c = c

-- the objects that the least element gives out as it is removed
abbrev pub least_leaving : Content → List ℕ
least_leaving (heap_content plain adds rows) =
    unless_plain plain (row_ids (option_to_list (least (order_of plain) rows)))
least_leaving _ = []

-- an item that is valid or not from now on, and is as this one
abbrev pub item_after : Bool → Item → Content → Content
item_after valid item (item_content handler info v i) = item_content handler info valid item
item_after valid item c = c

-- a content after a change
abbrev pub content_after : Change → Content → Content
content_after unchanged c = c
content_after (in_text e) c = text_after e c
content_after (in_data e) c = data_after e c
content_after (in_places e) c = places_after e c
content_after (put_pair key value) c = put_after key value c
content_after (remove_pair key) c = removed_after key c
content_after (add_member element) c = added_after element c
content_after (put_member element) c = put_member_after element c
content_after (remove_member element) c = removed_member_after element c
content_after remove_least c = least_after c
content_after (in_item valid item) c = item_after valid item c

-- the objects that a change of a content takes in, in order
abbrev pub coming_in : Change → Content → List ℕ
coming_in unchanged c = []
coming_in (in_text e) c = []
coming_in (in_data e) c = []
coming_in (in_places e) c = entering e c
coming_in (put_pair key value) c = put_entering key value c
coming_in (remove_pair key) c = []
coming_in (add_member element) c = added_entering element c
coming_in (put_member element) c = put_member_entering element c
coming_in (remove_member element) c = []
coming_in remove_least c = []
coming_in (in_item valid item) c = []

-- the objects that a change of a content gives out, in order
abbrev pub going_out : Change → Content → List ℕ
going_out unchanged c = []
going_out (in_text e) c = []
going_out (in_data e) c = []
going_out (in_places e) c = leaving e c
going_out (put_pair key value) c = put_leaving key c
going_out (remove_pair key) c = removed_leaving key c
going_out (add_member element) c = []
going_out (put_member element) c = put_member_leaving element c
going_out (remove_member element) c = removed_member_leaving element c
going_out remove_least c = least_leaving c
going_out (in_item valid item) c = []

-- the objects that a change of an object takes in; none if there is no object
abbrev pub taken_in : Option Object → Change → List ℕ
taken_in None change = []
taken_in (Some ob) change = coming_in change ob.content

-- the objects that a change of an object gives out; none if there is no object
abbrev pub given_out : Option Object → Change → List ℕ
given_out None change = []
given_out (Some ob) change = going_out change ob.content

-- an object after a change
abbrev pub object_after : Change → Object → Object
object_after change ob = record { class = ob.class; content = content_after change ob.content }

-- the objects with the one of a number changed
abbrev pub with_change : ℕ → Change → List Object → List Object
with_change o change [] = []
with_change zero change (ob ∷ obs) = object_after change ob ∷ obs
with_change (suc o) change (ob ∷ obs) = ob ∷ with_change o change obs

-- the objects with the one of a number changed, if there is a number
abbrev pub objects_after : Option ℕ → Change → List Object → List Object
objects_after None change objects = objects
objects_after (Some o) change objects = with_change o change objects
