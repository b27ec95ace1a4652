-- The files of definitions of cf_store.
pub mod Applies
pub mod Finds
pub mod Kept
pub mod Members
pub mod Sources
