-- The files of lemmas of cf_io.
pub mod Places
pub mod Told
