pub mod Replies
pub mod Sequences
pub mod Exports
pub mod Apart
pub mod Told
pub mod Strangers
pub mod Alike
