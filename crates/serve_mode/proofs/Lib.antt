pub mod StillLemmas
pub mod Promises
