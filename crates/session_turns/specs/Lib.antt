pub mod Joins
pub mod Passes
