-- The files of lemmas of cf_same.
pub mod Alike
pub mod AnswersAlike
