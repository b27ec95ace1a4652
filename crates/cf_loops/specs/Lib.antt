-- The files of definitions of cf_loops.
pub mod Following
pub mod Rooms
pub mod Changing
pub mod Edging
