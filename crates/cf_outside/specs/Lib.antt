-- The files of definitions of cf_outside.
pub mod Refusals
pub mod Times
