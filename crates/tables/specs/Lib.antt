pub mod FaultTable
pub mod Entries
pub mod Lines
