-- The files of lemmas of cf_set_bag.
pub mod Counting
pub mod Membership
