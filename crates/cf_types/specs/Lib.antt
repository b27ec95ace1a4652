-- The files of definitions of cf_types.
pub mod Cells
pub mod Faults
pub mod Forms
pub mod Hash
pub mod Laws
pub mod Leaves
pub mod Named
pub mod Registry
pub mod Views
