-- The files of definitions of cf_io.
pub mod Bytes
pub mod Faults
pub mod Files
pub mod Memory
pub mod MemFiles
pub mod Whole
