pub mod PlanesRowByRow
pub mod PictureOfAnswer
pub mod TrueImage
pub mod RowsLeft
