pub mod FileLemmas
pub mod Knowing
pub mod Done
pub mod Naming
pub mod Answering
pub mod Framing
pub mod Served
pub mod Links
