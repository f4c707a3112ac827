pub mod Words
pub mod Findings
pub mod Lines
pub mod Outcome
