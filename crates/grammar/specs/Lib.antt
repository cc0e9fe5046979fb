pub mod Entering
pub mod Texts
pub mod Format
