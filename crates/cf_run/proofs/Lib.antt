-- The files of lemmas of cf_run.
pub mod Concluding
pub mod Stalling
pub mod Writing
