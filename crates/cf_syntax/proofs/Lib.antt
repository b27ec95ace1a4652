-- The files of lemmas of cf_syntax.
pub mod BlockLaws
pub mod CountLaws
pub mod LengthLaws
pub mod LineLaws
pub mod NamedLaws
pub mod NamedLines
pub mod NamedReading
pub mod NumberedLaws
pub mod OnLiterals
pub mod OwnedLaws
pub mod ReadingLaws
pub mod PackLaws
pub mod RefusalLaws
pub mod SizeLaws
pub mod SpacedLaws
pub mod StageLaws
pub mod WordLaws
