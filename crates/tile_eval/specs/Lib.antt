pub mod Rows
pub mod Reading
pub mod Cases
pub mod Raster
pub mod Counted
pub mod inside
