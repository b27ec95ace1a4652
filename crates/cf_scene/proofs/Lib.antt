-- The files of lemmas of cf_scene.
pub mod Mirroring
pub mod Things
pub mod Doing
pub mod Flagging
pub mod Needing
pub mod Naming
pub mod OverLoops
pub mod Settling
