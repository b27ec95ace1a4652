-- The files of definitions of cf_members.
pub mod Views
