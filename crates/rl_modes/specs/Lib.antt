-- The files of definitions of rl_modes.
pub mod Loops
pub mod Fields
