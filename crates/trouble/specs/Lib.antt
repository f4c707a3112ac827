pub mod Status
pub mod Reading
