-- Objects and classes by which the definitions can be compared with what they are meant to say.
use Rattle.std.specs.Prelude.{ℕ, ℤ, pos, negsuc, true, false, List, [], ◌∷◌, codes, None, Some}
use Rattle.cf_ids.specs.declared.answer.Answer.{Answer}
use Rattle.cf_number.specs.declared.kinds.NumKind.TheVariants.{S16}
use Rattle.cf_syntax.specs.declared.script.ClassLine.{ClassLine}
use Rattle.cf_syntax.specs.declared.statement.Statement.{Statement}
use Rattle.cf_types.specs.Views.{text_form, whole_form}
use Rattle.cf_types.specs.declared.cells.Cell.{Cell}
use Rattle.cf_contents.specs.Contents.{Content, text_content, data_content, number_content, instance_content, array_content, dictionary_content, set_content, bag_content, heap_content, Object}
use Rattle.cf_contents.specs.Deeds.{Deed, deed_at, content_after, coming_in, going_out}

-- a class of points, which has the type number 14
abbrev pub point : ClassLine
point = record { name = codes "point"; fields = 2; keyed = true }

-- a point with the key -3 and two empty fields
abbrev pub a_point : Object
a_point = record { class = 14; content = instance_content (negsuc 2) (None ∷ None ∷ []) }

-- the number 200, of the kind S16
abbrev pub a_number : Object
a_number = record { class = 5; content = number_content (record { kind = S16; value = pos 200 }) }

-- a mutable text: x, a character beyond 16 bits, z
abbrev pub a_text : Object
a_text = record { class = 3; content = text_content true (120 ∷ 55357 ∷ 56832 ∷ 122 ∷ []) }

-- the immutable string hi
abbrev pub a_string : Object
a_string = record { class = 3; content = text_content false (codes "hi") }

-- mutable data of two bytes
abbrev pub some_data : Object
some_data = record { class = 4; content = data_content true (10 ∷ 11 ∷ []) }

-- data of no bytes
abbrev pub no_data : Object
no_data = record { class = 4; content = data_content false [] }

-- an array of the objects 0 and 1
abbrev pub an_array : Object
an_array = record { class = 6; content = array_content false (0 ∷ 1 ∷ []) }

-- an object as a key that is compared by a text
abbrev pub key_of : ℕ → List ℕ → Cell
key_of o text = record { id = o; leaf = record { class = 3; form = text_form text } }

-- a dictionary in which that key of the object 0 has the object 3 as its value
abbrev pub a_dictionary : Object
a_dictionary = record { class = 7; content = dictionary_content false ((key_of 0 (codes "k"), 3) ∷ []) }

-- a plain dictionary with the same pair
abbrev pub a_plain_one : Object
a_plain_one = record { class = 7; content = dictionary_content true ((key_of 0 (codes "k"), 3) ∷ []) }

-- a set with a member of that key
abbrev pub a_set : Object
a_set = record { class = 8; content = set_content false (key_of 0 (codes "k") ∷ []) }

-- a bag in which that member is twice
abbrev pub a_bag : Object
a_bag = record { class = 9; content = bag_content false ((key_of 0 (codes "k"), 2) ∷ []) }

-- a number as an element
abbrev pub value_of : ℕ → ℤ → Cell
value_of o value = record { id = o; leaf = record { class = 5; form = whole_form value } }

-- a heap of the values 2, 1 and 1, of which 1 is the least and came second and third
abbrev pub a_heap : Object
a_heap = record {
  class = 10;
  content = heap_content false 3 ((value_of 0 (pos 2), 0) ∷ (value_of 1 (pos 1), 1) ∷ (value_of 2 (pos 1), 2) ∷ []);
}

-- a string that is equal to that key
abbrev pub a_key : Object
a_key = record { class = 3; content = text_content false (codes "k") }

-- the deed of a statement on three objects, which have the numbers 0, 1 and 2
abbrev pub deed_on : Statement → (first second third : Object) → Deed
deed_on s a b c = deed_at (point ∷ []) (a ∷ b ∷ c ∷ []) s (Some 0 ∷ Some 1 ∷ Some 2 ∷ [])

-- what a statement answers on two of them
abbrev pub answer_on : Statement → (first second : Object) → Answer
answer_on s a b = (deed_on s a b b).answer

-- what a statement answers whose variables are empty
abbrev pub answer_on_nothing : Statement → Answer
answer_on_nothing s = (deed_at [] [] s (None ∷ None ∷ None ∷ [])).answer

-- what becomes of the first of the three
abbrev pub after : Statement → (first second : Object) → Content
after s a b = content_after (deed_on s a b b).change a.content

-- what a statement takes in to the first of the three
abbrev pub coming : Statement → (first second : Object) → List ℕ
coming s a b = coming_in (deed_on s a b b).change a.content

-- what a statement gives out of the first of the three
abbrev pub going : Statement → (first second : Object) → List ℕ
going s a b = going_out (deed_on s a b b).change a.content
