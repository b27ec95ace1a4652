-- The files of definitions of cf_extern.
pub mod Numbers
