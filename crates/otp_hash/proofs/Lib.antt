pub mod SeedLemmas
