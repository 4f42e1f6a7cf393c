pub mod RowTotals
pub mod Spans
