-- The files of definitions of cf_binheap.
pub mod Heaps
pub mod Trees
