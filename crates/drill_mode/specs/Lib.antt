pub mod Words
pub mod Services
pub mod Posts
pub mod Drilled
pub mod Outcome
pub mod Counted
pub mod CountsText
