-- The files of definitions of cf_dictionary.
pub mod Dictionaries
