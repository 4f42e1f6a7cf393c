pub mod StandsIn
pub mod Joins
pub mod Columns
pub mod inside
