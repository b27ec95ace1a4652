-- The files of definitions of cf_same.
pub mod Alike
pub mod Answers
