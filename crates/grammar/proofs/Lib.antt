pub mod Splitting
pub mod Wording
pub mod Fitting
pub mod Entering
pub mod Meanings
pub mod Accepting
pub mod Rendering
pub mod Uniqueness
