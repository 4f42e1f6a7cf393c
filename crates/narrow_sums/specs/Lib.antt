pub mod NarrowFormulas
pub mod NarrowSums
pub mod SumTerms
pub mod SumRows
pub mod inside
