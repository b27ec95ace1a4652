-- The files of definitions of cf_next_parts.
pub mod Tables
