-- The files of lemmas of cf_members.
pub mod Treating
