pub mod Parts
pub mod Deciding
pub mod Settling
pub mod Standing
pub mod Replayed
