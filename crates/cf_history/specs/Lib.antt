-- The files of definitions of cf_history.
pub mod Written
pub mod History
pub mod Timing
pub mod Notices
pub mod OpenRuns
pub mod Callouts
pub mod Clocks
pub mod Laws
