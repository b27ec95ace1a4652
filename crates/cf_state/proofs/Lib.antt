-- The files of lemmas of cf_state.
pub mod Few
pub mod Listing
pub mod Placing
pub mod Altering
pub mod Saying
