pub mod Asking
pub mod Nodes
pub mod Tasks
pub mod Usage
pub mod Values
