pub mod States
pub mod Tallies
pub mod Seeking
