-- The files of lemmas of cf_references.
pub mod Finding
