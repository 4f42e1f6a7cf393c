-- Definitions that clauses of inner functions cite, and no public clause does.
pub mod Making
