-- The files of lemmas of cf_binheap.
pub mod Arranging
pub mod DigitLaws
pub mod Selecting
pub mod Sifting
pub mod Turns
