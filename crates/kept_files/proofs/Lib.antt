pub mod KeptLemmas
pub mod ListLemmas
mod Putting
mod Replacing
pub mod SetupLemmas
pub mod Sparing
