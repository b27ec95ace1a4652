-- What is read of an object that a statement uses.
use Rattle.std.specs.Prelude.{ℕ, Bool, true, List, Option, Some, None}
use Rattle.cf_number.specs.Numbers.{Number}
use Rattle.cf_contents.specs.Contents.{Content, text_content, data_content, number_content, instance_content, array_content, heap_content}
use Rattle.cf_types.specs.declared.cells.Cell.{Cell}
use Rattle.cf_contents.specs.Keys.{Numbered}

-- the units of a text
abbrev pub units_in : Content → Option (List ℕ)
units_in (text_content mutable units) = Some units
units_in _ = None

-- the units of a text that may be edited
abbrev pub mutable_units_in : Content → Option (List ℕ)
mutable_units_in (text_content true units) = Some units
mutable_units_in _ = None

-- the bytes of data that may be edited
abbrev pub mutable_bytes_in : Content → Option (List ℕ)
mutable_bytes_in (data_content true bytes) = Some bytes
mutable_bytes_in _ = None

-- the number of a content
abbrev pub number_in : Content → Option Number
number_in (number_content n) = Some n
number_in _ = None

-- the fields of an instance
abbrev pub fields_in : Content → Option (List (Option ℕ))
fields_in (instance_content key fields) = Some fields
fields_in _ = None

-- the elements of an array
abbrev pub elements_in : Content → Option (List ℕ)
elements_in (array_content plain os) = Some os
elements_in _ = None

-- a heap: whether it is plain, how many were added, and its elements in order of arrival
pub record HeapSeen : Type 0 where
  pub plain : Bool
  pub adds : ℕ
  pub rows : List (Cell × ℕ)

abbrev pub heap_in : Content → Option HeapSeen
heap_in (heap_content plain adds rows) = Some (record { plain = plain; adds = adds; rows = rows })
heap_in _ = None

-- what is read of an object, if there is one
abbrev pub read_in : {A : Type 0} → (Content → Option A) → Option Numbered → Option A
read_in read None = None
read_in read (Some u) = read u.object.content
