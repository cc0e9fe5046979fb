pub mod Opening
pub mod Lines
pub mod Steps
pub mod Printing
pub mod Listing
