pub mod PlaneSamples
pub mod RowsCrossTiles
pub mod GivenLines
pub mod PlanesAreWide
