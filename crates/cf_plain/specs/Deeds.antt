-- Deeds of the program as the definitions have them, and what is read of an object.
use Rattle.std.specs.Prelude.{◌≡◌, ℕ, Bool, List, Option, Some, None}
use Rattle.cf_syntax.specs.declared.script.ClassLine.{ClassLine}
use Rattle.cf_types.specs.declared.cells.Cell.{Cell}
use Rattle.cf_contents.specs.Contents.{Content, heap_content}
use Rattle.cf_contents.specs.Keys.{Numbered}
use Rattle.cf_contents.specs.Deeds as deeds
use Rattle.cf_plain.specs.declared.deed.Origin.{Origin}
use Rattle.cf_plain.specs.declared.deed.Origin.TheVariants.{Nowhere, Fresh, There}
use Rattle.cf_plain.specs.declared.deed.Deed.{Deed}
use Rattle.cf_plain.specs.Heaps.{HeapView}
use Rattle.cf_plain.specs.Views.{change_of}

-- where the object comes from that a deed binds
abbrev pub origin_of : Origin → deeds.Origin
origin_of Nowhere = deeds.nowhere
origin_of (Fresh ob) = deeds.fresh ob
origin_of (There o) = deeds.there o

-- a deed
abbrev pub deed_of : Deed → deeds.Deed
deed_of d = record { answer = d.answer; origin = origin_of d.origin; change = change_of d.change }

-- a heap
abbrev pub heap_in : Content → Option HeapView
heap_in (heap_content plain adds rows) = Some (record { plain = plain; adds = adds; rows = rows })
heap_in _ = None

-- a deed by what was found of a key in a dictionary
pub record FoundKey : Type 0 where
  pub key : Cell
  pub value : Option ℕ

abbrev pub by_key : Option FoundKey → (Cell → Option ℕ → deeds.Deed) → deeds.Deed
by_key None deed = deeds.skipping
by_key (Some f) deed = deed f.key f.value

-- what was found of a key decides each deed on a pair
pub record IsKey (classes : List ClassLine) (a b : Option Numbered) (found : Option FoundKey) : Type 0 where
  pub decides : (deed : Cell → Option ℕ → deeds.Deed) → deeds.with_pair classes a b deed ≡ by_key found deed

-- a deed by what was found of an element in a set or a bag
pub record FoundMember : Type 0 where
  pub counts : Bool
  pub element : Cell
  pub row : Option (ℕ × ℕ)

abbrev pub by_member : Option FoundMember → (Bool → Cell → Option (ℕ × ℕ) → deeds.Deed) → deeds.Deed
by_member None deed = deeds.skipping
by_member (Some f) deed = deed f.counts f.element f.row

-- what was found of an element decides each deed on a member
pub record IsMember (classes : List ClassLine) (a b : Option Numbered) (found : Option FoundMember) : Type 0 where
  pub decides : (deed : Bool → Cell → Option (ℕ × ℕ) → deeds.Deed)
      → deeds.with_member classes a b deed ≡ by_member found deed
