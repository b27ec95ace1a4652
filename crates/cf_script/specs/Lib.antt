-- The files of definitions of cf_script.
pub mod BlockViews
pub mod Gives
pub mod NamesViews
pub mod Shapes
pub mod TableViews
pub mod Tables
pub mod Views
pub mod Whole
