pub mod Consequences
pub mod Strangers
pub mod Verdicts
