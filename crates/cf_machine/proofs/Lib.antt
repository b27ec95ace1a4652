-- The files of lemmas of cf_machine.
pub mod Asking
pub mod Entering
pub mod Finishing
pub mod Judging
pub mod Rooming
pub mod Using
