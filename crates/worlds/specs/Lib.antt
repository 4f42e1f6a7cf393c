pub mod Worlds
pub mod Finishes
pub mod FaultTable
pub mod inside
