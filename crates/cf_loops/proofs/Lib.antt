-- The files of lemmas of cf_loops.
pub mod Ranging
pub mod Ordering
pub mod Weights
pub mod Telling
pub mod Staying
pub mod Demanding
pub mod Dealing
pub mod Looking
pub mod Counting
pub mod Entering
pub mod Listing
pub mod Leaving
pub mod Invalidating
pub mod Places
pub mod Starting
pub mod Summing
pub mod EdgeLists
