-- The files of definitions of cf_machine.
pub mod Entering
pub mod Uses
