-- The files of lemmas of cf_next.
pub mod LineLaws
pub mod StatementLaws
pub mod PackLaws
pub mod RowLaws
pub mod CallLaws
pub mod LoopLaws
pub mod StackLaws
pub mod SuffixLaws
pub mod FrameLaws
pub mod AheadLaws
pub mod FormLaws
pub mod DepthLaws
pub mod HeldLaws
