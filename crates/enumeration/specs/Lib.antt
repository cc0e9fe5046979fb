pub mod Marking
pub mod Nodes
pub mod Visits
