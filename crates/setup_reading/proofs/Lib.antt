pub mod ReadLemmas
pub mod Touching
