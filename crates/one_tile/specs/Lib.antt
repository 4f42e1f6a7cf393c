pub mod TileFaults
pub mod Local
pub mod Prepared
pub mod Runs
pub mod Layouts
pub mod inside
