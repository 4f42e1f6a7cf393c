-- Definitions that only clauses of inner functions cite.
pub mod Spans
