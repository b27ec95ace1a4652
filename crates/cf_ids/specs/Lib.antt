-- The files of definitions of cf_ids.
pub mod Ranges
pub mod Words
