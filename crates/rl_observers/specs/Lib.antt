-- The files of definitions of rl_observers.
pub mod Tables
