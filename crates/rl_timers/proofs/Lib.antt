-- The files of lemmas of rl_timers.
mod Choosing
mod Keeping
pub mod Laws
mod NextDates
mod Queueing
mod Tables
