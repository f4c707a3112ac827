-- The proofs that a function's own name doesn't find.
mod Additions
