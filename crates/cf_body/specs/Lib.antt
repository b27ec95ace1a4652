-- The files of definitions of cf_body.
pub mod Bodies
pub mod Changes
pub mod Items
pub mod Pairs
