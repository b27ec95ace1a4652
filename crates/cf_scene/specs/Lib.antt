-- The files of definitions of cf_scene.
pub mod Scenes
pub mod Dealing
pub mod Sleeping
pub mod Needs
pub mod Gains
pub mod Acts
