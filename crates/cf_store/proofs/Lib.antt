-- The files of lemmas of cf_store.
pub mod Setting
pub mod Doing
pub mod Sourcing
pub mod Keeping
