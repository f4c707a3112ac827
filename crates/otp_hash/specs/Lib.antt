pub mod Hashing
pub mod Names
pub mod SeedBytes
pub mod Seeds
