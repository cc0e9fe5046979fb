pub mod Indexing
pub mod Worklist
pub mod Rulesets
