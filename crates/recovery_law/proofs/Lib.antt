pub mod Decided
pub mod Cutting
pub mod Survives
