pub mod Workers
pub mod Posts
pub mod Prepared
pub mod Ran
pub mod Headline
