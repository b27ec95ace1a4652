-- The files of lemmas of cf_graph.
pub mod Same
pub mod Counts
pub mod Flows
pub mod Sides
pub mod Latest
pub mod Follows
pub mod Closure
pub mod Chosen
pub mod Degrees
