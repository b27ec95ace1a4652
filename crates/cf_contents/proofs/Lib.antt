-- The files of lemmas of cf_contents.
pub mod ContentLaws
pub mod OnLiterals
pub mod MemberLaws
pub mod SlotLaws
pub mod FormLaws
pub mod BodyLaws
pub mod Sizes
pub mod Showing
