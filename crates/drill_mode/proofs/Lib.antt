mod DrillLemmas
mod LineLemmas
