pub mod Tests
pub mod Values
pub mod Limits
pub mod Bounds
pub mod Views
