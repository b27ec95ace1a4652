-- The files of definitions of rl_sources.
pub mod Tables
