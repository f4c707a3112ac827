pub mod Values
pub mod Log
pub mod LineTexts
pub mod Logged
pub mod Words
pub mod Parts
pub mod Reading
pub mod Typed
