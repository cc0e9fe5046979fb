pub mod Wholes
pub mod Declarations
