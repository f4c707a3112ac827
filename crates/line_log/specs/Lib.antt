pub mod Line
pub mod Kept
