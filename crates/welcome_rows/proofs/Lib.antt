pub mod LoginLines
pub mod Asked
pub mod Told
pub mod Readiness
pub mod Acts
pub mod Posts
pub mod Meets
