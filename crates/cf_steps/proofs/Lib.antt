-- The files of lemmas of cf_steps.
pub mod Asking
pub mod Sorting
pub mod Turning
