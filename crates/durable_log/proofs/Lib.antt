pub mod Images
pub mod Reading
pub mod Pieces
pub mod Moments
pub mod Steps
pub mod Told
pub mod Appends
pub mod Calls
