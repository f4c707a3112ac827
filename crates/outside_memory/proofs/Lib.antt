pub mod Counted
pub mod RepeatingLemmas
mod FindLemmas
mod ShelfLemmas
mod FilesLemmas
mod BlankLemmas
pub mod ReceivingLemmas
pub mod ScriptLemmas
