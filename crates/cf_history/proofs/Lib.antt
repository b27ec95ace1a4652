-- The files of lemmas of cf_history.
pub mod SerialLaws
pub mod ItemLaws
pub mod ItemSteps
pub mod StepLaws
pub mod WrittenLaws
pub mod DemandLaws
pub mod Along
pub mod NoticeLaws
pub mod RunViews
pub mod RoleLaws
pub mod RunLaws
pub mod Stops
pub mod RunsAlong
pub mod CalloutLaws
pub mod TurnLaws
