mod RenewLemmas
mod RunLemmas
