pub mod Programs
pub mod Pairs
pub mod Rounds
pub mod Unknown
pub mod Beyond
pub mod Ends
pub mod Narrowings
