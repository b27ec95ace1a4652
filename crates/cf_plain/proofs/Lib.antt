-- The files of lemmas of cf_plain.
pub mod Placing
pub mod Ranking
pub mod Wording
pub mod Listing
