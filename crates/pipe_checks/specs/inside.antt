-- What clauses of inner functions cite, and no public clause does.
pub mod Search
pub mod Judging
pub mod Entries
pub mod Tables
