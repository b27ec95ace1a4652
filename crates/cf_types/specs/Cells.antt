-- How collections treat their elements, after the type callbacks and the null callbacks of the Collections guide:
-- these compare by class and contents, those by identity alone.
use Rattle.std.specs.Prelude.{ℕ, Bool, true, false, ◌==◌}
use Rattle.std.specs.Int.{w32, to_be_bytes}
use Rattle.std.specs.Ordering.{nat_cmp}
use Rattle.std.specs.declared.cmp.Ordering.{Ordering}
use Rattle.cf_types.specs.declared.cells.Cell.{Cell}
use Rattle.cf_types.specs.declared.callbacks.CellCallbacks.{CellCallbacks}
use Rattle.cf_types.specs.declared.callbacks.CellCallbacks.TheVariants.{Typed, Plain}
use Rattle.cf_types.specs.Hash.{hash_of, leaf_bytes}
use Rattle.cf_types.specs.Leaves.{leaves_equal, leaf_order}

-- whether elements are retained
abbrev pub cells_kept : CellCallbacks → Bool
cells_kept Typed = true
cells_kept Plain = false

-- whether two elements are equal
abbrev pub cells_equal : CellCallbacks → Cell → Cell → Bool
cells_equal Typed a b = leaves_equal a.leaf b.leaf
cells_equal Plain a b = a.id == b.id

-- the hash of an element
abbrev pub cell_hash : CellCallbacks → Cell → ℕ
cell_hash Typed a = hash_of (leaf_bytes a.leaf)
cell_hash Plain a = hash_of (to_be_bytes w32 a.id)

-- how an element stands to another
abbrev pub cell_order : CellCallbacks → Cell → Cell → Ordering
cell_order Typed a b = leaf_order a.leaf b.leaf
cell_order Plain a b = nat_cmp a.id b.id
