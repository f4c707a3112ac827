pub mod Asking
mod Exactness
mod LineLemmas
mod OutcomeLemmas
mod PhraseLemmas
mod TextLemmas
