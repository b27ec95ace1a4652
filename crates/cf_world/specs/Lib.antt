-- The files of definitions of cf_world.
pub mod Worlds
pub mod Grounds
pub mod Entering
pub mod Kept
pub mod Begun
pub mod Bindings
pub mod Ends
pub mod Leads
pub mod Referring
