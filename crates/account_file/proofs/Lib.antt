pub mod KeyLemmas
pub mod EachLemmas
pub mod InfoLemmas
pub mod Once
