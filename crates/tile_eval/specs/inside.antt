-- What clauses of inner functions cite, and no public clause does.
pub mod Cases
pub mod Operators
pub mod Stencil
pub mod Counted
