pub mod Faults
pub mod Pieces
pub mod PointWork
pub mod StageRuns
pub mod Stored
pub mod Work
pub mod inside
