-- The files of definitions of cf_state.
pub mod Few
pub mod Known
pub mod Placed
pub mod States
pub mod Updates
pub mod Views
pub mod Rooms
