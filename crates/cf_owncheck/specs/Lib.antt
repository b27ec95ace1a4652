-- The files of definitions of cf_owncheck.
pub mod Judges
pub mod Uses
