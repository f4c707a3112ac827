pub mod Reading
mod AskOrder
pub mod Turning
pub mod Parts
pub mod EndLemmas
pub mod Children
pub mod OpeningLemmas
pub mod WorkerLemmas
pub mod Overs
