-- The files of definitions of cf_array.
pub mod Arrays
