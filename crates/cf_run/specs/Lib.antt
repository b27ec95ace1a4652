-- The files of definitions of cf_run.
pub mod Written
pub mod Commands
pub mod Calls
pub mod Outcomes
pub mod Settled
