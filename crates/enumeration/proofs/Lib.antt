pub mod Backing
pub mod Marking
pub mod Nodes
pub mod Visits
pub mod Seeking
