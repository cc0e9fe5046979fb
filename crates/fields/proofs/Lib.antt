pub mod Parting
pub mod Finding
