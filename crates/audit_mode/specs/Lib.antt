pub mod Words
pub mod Commands
pub mod Lines
pub mod Texts
pub mod Outcome
