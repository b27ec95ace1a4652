-- The files of definitions of cf_graph.
pub mod Owners
pub mod Holders
pub mod Edges
pub mod Operations
pub mod Flows
pub mod Degrees
pub mod Paths
pub mod Walks
