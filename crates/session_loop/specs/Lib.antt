pub mod Child
pub mod Sessions
pub mod Stories
