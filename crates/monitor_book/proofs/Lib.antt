pub mod LogLemmas
pub mod EventLemmas
pub mod HistoryLemmas
pub mod ApplyLemmas
pub mod TypedLemmas
