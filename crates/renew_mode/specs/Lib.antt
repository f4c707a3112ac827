pub mod Ends
pub mod Bases
pub mod Renewing
pub mod Installing
pub mod Outcome
