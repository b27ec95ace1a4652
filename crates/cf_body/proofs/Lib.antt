-- The files of lemmas of cf_body.
pub mod Wording
pub mod Pairing
pub mod Placing
pub mod Growing
pub mod Collecting
