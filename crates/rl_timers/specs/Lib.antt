-- The files of definitions of rl_timers.
pub mod Timings
pub mod Queues
pub mod Rows
