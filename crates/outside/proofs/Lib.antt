pub mod Told
pub mod Counts
pub mod Exchanges
pub mod Scenes
pub mod Touching
pub mod OnlyReading
