-- The files of lemmas of cf_owncheck.
pub mod Walks
