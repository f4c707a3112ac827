pub mod Workers
pub mod Gathered
pub mod Seen
pub mod Headline
pub mod Kept
pub mod Promises
