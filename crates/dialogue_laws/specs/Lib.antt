pub mod Dialogue
pub mod Children
