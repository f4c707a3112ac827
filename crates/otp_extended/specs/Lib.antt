pub mod Parts
pub mod Responses
pub mod Renewals
pub mod Commands
pub mod Outcome
pub mod Inner
