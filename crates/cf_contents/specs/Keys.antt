-- What objects are compared by: an immutable string by its text, immutable data by its bytes, a number by its value,
-- an instance of a class with keys by its key, and every other object by its identity. No change of an object
-- changes that. This project's own, after the type callbacks of the Collections guide.
use Rattle.std.specs.Prelude.{ℕ, ◌-◌, Bool, true, false, List, Option, Some, None, slice_get, nat_lt, if◌then◌else◌}
use Rattle.cf_types.specs.Views.{FormView, text_form, data_form, whole_form, same_form}
use Rattle.cf_types.specs.Cells.{cells_equal}
use Rattle.cf_types.specs.declared.cells.Cell.{Cell}
use Rattle.cf_syntax.specs.declared.script.ClassLine.{ClassLine}
use Rattle.cf_contents.specs.Contents.{Content, text_content, data_content, number_content, instance_content, array_content, dictionary_content, set_content, bag_content, heap_content, Object, callbacks_of, first_class, item_content}

-- an object with its number
pub record Numbered : Type 0 where
  pub number : ℕ
  pub object : Object

-- an object with this number, if there is one
abbrev pub with_number_of : ℕ → Option Object → Option Numbered
with_number_of o None = None
with_number_of o (Some ob) = Some (record { number = o; object = ob })

-- the object of a number among objects, with its number
abbrev pub numbered : List Object → Option ℕ → Option Numbered
numbered objects None = None
numbered objects (Some o) = with_number_of o (slice_get objects o)

-- the number of an object, if there is one
abbrev pub number_of : Option Numbered → Option ℕ
number_of None = None
number_of (Some u) = Some u.number

-- the line of a class, by the number of its type; a type that is built in has none
abbrev pub class_line : List ClassLine → ℕ → Option ClassLine
class_line classes class = if nat_lt class first_class then None else slice_get classes (class - first_class)

-- instances of the class are equal if their keys are
abbrev pub is_keyed : Option ClassLine → Bool
is_keyed None = false
is_keyed (Some line) = line.keyed

-- what an object is compared by
abbrev pub compared_by : Bool → ℕ → Content → FormView
compared_by keyed o (text_content true units) = same_form o
compared_by keyed o (text_content false units) = text_form units
compared_by keyed o (data_content true bytes) = same_form o
compared_by keyed o (data_content false bytes) = data_form bytes
compared_by keyed o (number_content n) = whole_form n.value
compared_by keyed o (instance_content key fields) = if keyed then whole_form key else same_form o
compared_by keyed o (array_content plain os) = same_form o
compared_by keyed o (dictionary_content plain pairs) = same_form o
compared_by keyed o (set_content plain members) = same_form o
compared_by keyed o (bag_content plain rows) = same_form o
compared_by keyed o (heap_content plain adds rows) = same_form o
compared_by keyed o (item_content handler info valid item) = same_form o

-- an object as an element of a collection
abbrev pub cell_of : List ClassLine → Numbered → Cell
cell_of classes u = record {
  id = u.number;
  leaf = record { class = u.object.class; form = compared_by (is_keyed (class_line classes u.object.class)) u.number u.object.content };
}

-- whether elements are equal
abbrev pub equal_to : Bool → Cell → Cell → Bool
equal_to plain key other = cells_equal (callbacks_of plain) key other
