-- Definitions that only clauses of inner functions and proofs cite.
pub mod Sizes
