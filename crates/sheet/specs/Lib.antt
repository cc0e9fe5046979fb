pub mod Faults
pub mod Contents
pub mod Laying
pub mod Calls
pub mod Steps
