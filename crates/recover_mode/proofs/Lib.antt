mod ReadLemmas
mod LogLemmas
mod WriteLemmas
mod RunLemmas
mod ReturnLemmas
