pub mod Around
pub mod Commands
pub mod Headline
pub mod Modes
pub mod Whole
pub mod Alone
pub mod Touching
