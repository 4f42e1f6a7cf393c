pub mod Crossing
pub mod TotalsOfAnswer
pub mod TileTotals
pub mod TakenPartials
pub mod RowsJoin
