-- The files of definitions of cf_basichash.
pub mod Members
pub mod Places
pub mod Tables
