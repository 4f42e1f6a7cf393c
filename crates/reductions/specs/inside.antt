-- What clauses of inner functions cite, and no public clause does.
pub mod Gathering
pub mod FourRows
