pub mod TwiceLemmas
