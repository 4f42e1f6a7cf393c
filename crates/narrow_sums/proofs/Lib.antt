pub mod NarrowFormulas
pub mod NarrowAddends
pub mod TermLaws
pub mod TermOrders
pub mod NearLaws
pub mod SumRows
pub mod RowLaws
