-- The files of definitions of cf_deals.
pub mod Deals
