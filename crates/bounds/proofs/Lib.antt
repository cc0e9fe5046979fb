mod Tables
mod Outputs
mod Leasts
mod Fills
mod Marking
mod Knowing
mod Standings
mod Sames
pub mod Rounding
pub mod Beyond
mod Ending
