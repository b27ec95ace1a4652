-- The files of lemmas of cf_outside.
pub mod Zipped
