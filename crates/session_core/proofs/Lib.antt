pub mod AccountLemmas
pub mod DecideLemmas
pub mod SettleLemmas
pub mod GrantLemmas
pub mod StandLemmas
pub mod ReplayLemmas
