-- The files of lemmas of rl_modes.
pub mod Cuts
pub mod Orders
pub mod Marks
pub mod Pairs
pub mod Kept
pub mod Looks
pub mod News
pub mod Places
pub mod Sound
