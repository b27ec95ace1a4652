-- The files of definitions of cf_references.
pub mod Views
pub mod Flows
