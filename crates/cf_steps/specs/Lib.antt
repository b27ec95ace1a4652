-- The files of definitions of cf_steps.
pub mod Binding
pub mod Doing
pub mod Keys
pub mod Running
