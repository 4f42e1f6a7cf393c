pub mod RowsJoin
pub mod Summing
