-- The files of lemmas of cf_deals.
pub mod Changing
pub mod Filling
pub mod Reading
pub mod Stating
