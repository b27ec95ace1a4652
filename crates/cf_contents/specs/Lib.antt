-- The files of definitions of cf_contents.
pub mod Items
pub mod Contents
pub mod Keys
pub mod Deeds
pub mod Descriptions
pub mod Stores
pub mod Groups
pub mod Seen
pub mod Examples
