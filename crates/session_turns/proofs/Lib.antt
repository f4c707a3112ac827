pub mod Places
pub mod Others
pub mod Asked
pub mod Passes
pub mod Sent
