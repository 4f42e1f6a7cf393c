-- Definitions that only clauses of inner functions cite.
pub mod Found
pub mod Moved
pub mod Parts
