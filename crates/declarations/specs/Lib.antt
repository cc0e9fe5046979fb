pub mod Whole
pub mod Declaring
pub mod Shown
