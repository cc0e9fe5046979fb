pub mod Lines
pub mod Stacks
