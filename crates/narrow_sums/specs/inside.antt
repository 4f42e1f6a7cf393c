-- What clauses of inner functions and private fields cite, and no public clause does.
pub mod TermValues
pub mod TermOrders
pub mod NearTerms
pub mod RowValues
