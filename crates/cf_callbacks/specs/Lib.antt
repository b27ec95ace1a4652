-- The files of definitions of cf_callbacks.
pub mod Ranking
