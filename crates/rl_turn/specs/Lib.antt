-- The files of definitions of rl_turn.
pub mod Turn
