-- The files of lemmas of cf_types.
pub mod Lossy
pub mod Names
pub mod Utf8
