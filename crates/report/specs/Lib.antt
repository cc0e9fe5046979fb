pub mod Handing
pub mod Lists
pub mod Printouts
pub mod Progress
