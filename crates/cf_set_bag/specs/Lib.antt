-- The files of definitions of cf_set_bag.
pub mod Bags
pub mod Sets
