-- The files of definitions of rl_base.
pub mod Activities
pub mod Dates
pub mod History
pub mod Modes
pub mod Numbered
pub mod Ranks
pub mod Receivers
pub mod Signals
