-- The files of definitions of cf_notify.
pub mod Centres
pub mod Links
pub mod Registered
