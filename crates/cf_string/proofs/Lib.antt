-- The files of lemmas of cf_string.
pub mod Validity
pub mod Characters
pub mod Places
pub mod Lossy
