pub mod ImageLemmas
pub mod ReadLemmas
pub mod PassLemmas
pub mod SpendLemmas
pub mod AnswerLemmas
pub mod LineLemmas
pub mod JournalLemmas
pub mod BackLemmas
