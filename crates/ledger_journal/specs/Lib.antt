pub mod Lines
pub mod Logins
pub mod Images
pub mod Reads
pub mod Recovering
pub mod Journals
pub mod Spending
