-- What objects contain. After the reference: a text is a list of UTF-16 units, data a list of bytes, a number a value
-- and its kind, an array a list of elements, a dictionary a list of pairs with distinct keys, a set a list of members
-- no two of which are equal, a bag such a list with a number beside each, and a heap a list of elements with their
-- arrival numbers. Instances of a script's classes, the order of pairs and of members, and that of equal elements of a
-- heap the earlier goes out first, are this project's own.
use Rattle.std.specs.Prelude.{ℕ, ◌+◌, ℤ, Bool, List, [], ◌∷◌, ◌==◌, if◌then◌else◌, length, max, Option, None, Some, replicate}
use Rattle.std.specs.Option.{option_map}
use Rattle.std.specs.Ordering.{on}
use Rattle.std.specs.declared.cmp.Ordering.{Ordering}
use Rattle.cf_number.specs.Numbers.{Number}
use Rattle.cf_types.specs.declared.cells.Cell.{Cell}
use Rattle.cf_types.specs.declared.callbacks.CellCallbacks.{CellCallbacks}
use Rattle.cf_types.specs.declared.callbacks.CellCallbacks.TheVariants.{Typed, Plain}
use Rattle.cf_types.specs.Cells.{cell_order}
use Rattle.cf_callbacks.specs.Ranking.{by_rank, least}
use Rattle.cf_syntax.specs.declared.script.ClassLine.{ClassLine}
use Rattle.cf_contents.specs.Items.{Item}

-- what an object contains. A text or data may be mutable, a collection may be plain: such a one compares identities
-- and holds nothing. A pair is its key, with what that is compared by, and the number of its value; a member is what
-- it is compared by too, in a bag with how often it is there. The rows of a heap stand in order of arrival, each an
-- element with how many were added before it; `adds` is how many were added, those that are gone too. An item of a run
-- loop has its handler, the object with which that is called, if there is one, and whether it is valid
pub data Content : Type 0 where
  text_content : (mutable : Bool) (units : List ℕ) → Content
  data_content : (mutable : Bool) (bytes : List ℕ) → Content
  number_content : Number → Content
  instance_content : (key : ℤ) (fields : List (Option ℕ)) → Content
  array_content : (plain : Bool) (elements : List ℕ) → Content
  dictionary_content : (plain : Bool) (pairs : List (Cell × ℕ)) → Content
  set_content : (plain : Bool) (members : List Cell) → Content
  bag_content : (plain : Bool) (rows : List (Cell × ℕ)) → Content
  heap_content : (plain : Bool) (adds : ℕ) (rows : List (Cell × ℕ)) → Content
  item_content : (handler : ℕ) (info : Option ℕ) (valid : Bool) → Item → Content

-- an object that was made: the number of its type, and what it contains
pub record Object : Type 0 where
  pub class : ℕ
  pub content : Content

-- how often a number stands in a list
abbrev pub times : ℕ → List ℕ → ℕ
times n [] = 0
times n (m ∷ ms) = (if m == n then 1 else 0) + times n ms

-- the objects in places of which some are empty, in order
abbrev pub present : List (Option ℕ) → List ℕ
present [] = []
present (None ∷ os) = present os
present (Some o ∷ os) = o ∷ present os

-- the objects of pairs, one pair after another: the key and then the value
abbrev pub flat : List (Cell × ℕ) → List ℕ
flat [] = []
flat (p ∷ ps) = p.0.id ∷ p.1 ∷ flat ps

-- the objects of members, one after another
abbrev pub ids_of : List Cell → List ℕ
ids_of [] = []
ids_of (m ∷ ms) = m.id ∷ ids_of ms

-- the objects of rows, one after another
abbrev pub row_ids : List (Cell × ℕ) → List ℕ
row_ids [] = []
row_ids (r ∷ rs) = r.0.id ∷ row_ids rs

-- a row by the number of its object, with its own number
abbrev pub numbered_row : Cell × ℕ → ℕ × ℕ
numbered_row row = (row.0.id, row.1)

-- the number of a row's object
abbrev pub id_in_row : Cell × ℕ → ℕ
id_in_row row = row.0.id

-- by what elements are compared: a plain collection compares identities
abbrev pub callbacks_of : Bool → CellCallbacks
callbacks_of plain = if plain then Plain else Typed

-- the order of a heap's rows: that of their elements
abbrev pub order_of : Bool → Cell × ℕ → Cell × ℕ → Ordering
order_of plain = on (λ (row : Cell × ℕ). row.0) (cell_order (callbacks_of plain))

-- the least element of a heap, of equal ones the one that came first
abbrev pub least_of : Bool → List (Cell × ℕ) → Option ℕ
least_of plain rows = option_map id_in_row (least (order_of plain) rows)

-- the greatest number of a bag's rows
abbrev pub greatest : List (Cell × ℕ) → ℕ
greatest [] = 0
greatest (r ∷ rs) = max r.1 (greatest rs)

-- what a collection holds of its members: all, or nothing if it is plain
abbrev pub unless_plain : Bool → List ℕ → List ℕ
unless_plain plain os = if plain then [] else os

-- the objects in the slots: a bag has one for each row, and a heap's go by rising value, of equal ones the earlier
-- first
abbrev pub slots_in : Content → List ℕ
slots_in (text_content mutable units) = []
slots_in (data_content mutable bytes) = []
slots_in (number_content n) = []
slots_in (instance_content key fields) = present fields
slots_in (array_content plain elements) = unless_plain plain elements
slots_in (dictionary_content plain pairs) = unless_plain plain (flat pairs)
slots_in (set_content plain members) = unless_plain plain (ids_of members)
slots_in (bag_content plain rows) = unless_plain plain (row_ids rows)
slots_in (heap_content plain adds rows) = unless_plain plain (row_ids (by_rank (order_of plain) rows))
slots_in (item_content handler info valid item) = present (info ∷ [])

-- the objects in the slots of an object, if there is one
abbrev pub slots_at : Option Object → List ℕ
slots_at None = []
slots_at (Some ob) = slots_in ob.content

-- how many members a collection has; of a bag that or its greatest number, and of a heap that or how many were added,
-- what is more; and the number that all are below. The number of an instance's fields stays
abbrev pub size_of : Content → ℕ
size_of (text_content mutable units) = 0
size_of (data_content mutable bytes) = 0
size_of (number_content n) = 0
size_of (instance_content key fields) = 0
size_of (array_content plain elements) = length elements
size_of (dictionary_content plain pairs) = length pairs
size_of (set_content plain members) = length members
size_of (bag_content plain rows) = max (length rows) (greatest rows)
size_of (heap_content plain adds rows) = max (length rows) adds
size_of (item_content handler info valid item) = 0

-- how many members an object has, if there is one
abbrev pub size_at : Option Object → ℕ
size_at None = 0
size_at (Some ob) = size_of ob.content

-- the number that the members of each collection are below
abbrev pub member_limit : ℕ
member_limit = 2147483648

-- the type number of strings, after the reference's names
abbrev pub string_class : ℕ
string_class = 3

-- the type number of data
abbrev pub data_class : ℕ
data_class = 4

-- the type number of numbers
abbrev pub number_class : ℕ
number_class = 5

-- the type number of arrays
abbrev pub array_class : ℕ
array_class = 6

-- the type number of dictionaries
abbrev pub dictionary_class : ℕ
dictionary_class = 7

-- the type number of sets
abbrev pub set_class : ℕ
set_class = 8

-- the type number of bags
abbrev pub bag_class : ℕ
bag_class = 9

-- the type number of heaps
abbrev pub heap_class : ℕ
heap_class = 10

-- the type number of the first class of a script
abbrev pub first_class : ℕ
first_class = 14

-- a new instance has all fields empty
abbrev pub instance_of : ℕ → ℤ → Option ClassLine → Option Object
instance_of class key None = None
instance_of class key (Some line) =
    Some (record { class = class; content = instance_content key (replicate line.fields None) })
