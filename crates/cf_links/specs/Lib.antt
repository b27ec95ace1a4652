-- The files of definitions of cf_links.
pub mod Lists
pub mod Chain
pub mod Sides
pub mod Fields
