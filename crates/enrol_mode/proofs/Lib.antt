pub mod Exactness
pub mod OutcomeLemmas
