-- The files of definitions of cf_string.
pub mod Faults
pub mod Units
