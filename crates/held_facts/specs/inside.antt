-- Definitions that only clauses of inner functions cite.
pub mod Searching
pub mod Judging
pub mod Gathering
pub mod Holding
pub mod Needing
