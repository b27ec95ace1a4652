-- The files of definitions of cf_number.
pub mod Kinds
pub mod Numbers
