-- The files of lemmas of cf_links.
mod Turned
mod Chains
mod Edits
pub mod Laws
mod FieldLemmas
mod Steps
mod Webs
