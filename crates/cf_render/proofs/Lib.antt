-- The files of lemmas of cf_render.
pub mod Telling
mod Spacing
mod Counting
mod Journals
mod Leaving
mod Texts
