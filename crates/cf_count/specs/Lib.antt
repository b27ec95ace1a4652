-- The files of definitions of cf_count.
pub mod Counts
pub mod Changes
pub mod Words
