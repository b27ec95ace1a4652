-- The files of definitions of cf_plain.
pub mod Forms
pub mod Heaps
pub mod Views
pub mod Deeds
pub mod Words
