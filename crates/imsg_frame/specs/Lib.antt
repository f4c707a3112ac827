pub mod Fields
pub mod Message
pub mod Held
pub mod Layout
pub mod Cut
pub mod Answer
pub mod Requests
