-- The files of lemmas of cf_script.
pub mod AbsentLaws
pub mod ClassLaws
pub mod FeedLaws
pub mod FormHintLaws
pub mod HexLaws
pub mod HintLaws
pub mod NameLaws
pub mod NearLaws
pub mod NumberLaws
pub mod OpeningLaws
pub mod ReaderLaws
pub mod ShapeLaws
pub mod StatementLaws
pub mod TableLaws
pub mod TestedLaws
pub mod ThreadLaws
pub mod Utf8
