pub mod Words
pub mod Commands
pub mod Lines
pub mod Ends
pub mod Bases
pub mod Recovering
pub mod Outcome
pub mod Returning
