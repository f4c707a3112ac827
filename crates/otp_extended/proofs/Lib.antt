mod BlankLemmas
mod OnlyLemmas
mod PartLemmas
mod RenewalLemmas
mod SetupLemmas
mod SpentLemmas
