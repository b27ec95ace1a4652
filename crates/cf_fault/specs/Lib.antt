-- The files of definitions of cf_fault.
pub mod Fault
