-- The files of definitions of cf_render.
pub mod FormWords
pub mod Rendering
pub mod Rows
pub mod Made
pub mod Ends
pub mod LineRows
