-- What sets, bags and heaps of objects are to the bodies of objects.
use Rattle.std.specs.Prelude.{◌≡◌, ℕ, Bool, true, false, List, Option, None, Some}
use Rattle.cf_types.specs.declared.cells.Cell.{Cell}
use Rattle.cf_types.specs.declared.callbacks.CellCallbacks.{CellCallbacks}
use Rattle.cf_callbacks.specs.Ranking.{by_rank}
use Rattle.cf_binheap.specs.Heaps.{Heaped}
use Rattle.cf_set_bag.specs.declared.bag.BagAdd.{BagAdd}
use Rattle.cf_set_bag.specs.declared.bag.BagAdd.TheVariants.{First, More, Full}
use Rattle.cf_set_bag.specs.declared.bag.BagRemove.{BagRemove}
use Rattle.cf_set_bag.specs.declared.bag.BagRemove.TheVariants.{Absent, Less, Gone}
use Rattle.cf_contents.specs.Contents.{callbacks_of, order_of}

-- whether a set is plain, its members, and how many more come in without memory
pub record SetView : Type 0 where
  pub plain : Bool
  pub members : List Cell
  pub room : ℕ

-- the same of a bag, whose members have numbers
pub record BagView : Type 0 where
  pub plain : Bool
  pub rows : List (Cell × ℕ)
  pub room : ℕ

-- the same of a heap, with how many were added
pub record HeapView : Type 0 where
  pub plain : Bool
  pub adds : ℕ
  pub rows : List (Cell × ℕ)
  pub room : ℕ

-- whether an add took an element in, and the member that a removal took out
abbrev pub is_first : BagAdd Cell → Bool
is_first First = true
is_first (More x) = false
is_first (Full x) = false

abbrev pub member_gone : BagRemove Cell → Option ℕ
member_gone Absent = None
member_gone Less = None
member_gone (Gone x) = Some x.id

-- a heap treats its elements as a plain one does or not, and where it is sorted they stand in the order in which they
-- go out
pub record IsKept (plain is_sorted : Bool) (elements : Heaped Cell CellCallbacks) : Type 0 where
  pub callbacks : elements.callbacks ≡ callbacks_of plain
  pub sorted : is_sorted ≡ true → elements.slots ≡ by_rank (order_of plain) elements.rows
