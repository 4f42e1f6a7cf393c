pub mod PointsAreRead
pub mod RowsAreRead
