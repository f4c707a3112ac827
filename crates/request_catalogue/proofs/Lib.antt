pub mod FieldLemmas
pub mod Numbers
pub mod Table
pub mod Messages
pub mod ReplyTable
pub mod TextLemmas
