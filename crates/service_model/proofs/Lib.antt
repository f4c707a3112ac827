pub mod Lists
pub mod Places
pub mod Steps
pub mod Sittings
pub mod Ends
pub mod Stories
pub mod Answered
pub mod Losses
