pub mod Bins
pub mod TruePartials
pub mod Accumulating
pub mod GatherRooms
pub mod inside
