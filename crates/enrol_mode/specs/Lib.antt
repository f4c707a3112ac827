pub mod Words
pub mod Command
pub mod Accounts
pub mod Outcome
pub mod Exact
