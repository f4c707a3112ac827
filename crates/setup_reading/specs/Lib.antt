pub mod Read
pub mod Touching
