pub mod Puts
pub mod Fields
pub mod States
pub mod Imports
