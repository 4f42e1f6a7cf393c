-- What clauses of inner functions and private fields cite, and no public clause does.
pub mod LinearSums
pub mod LinearTaps
pub mod Divisions
