pub mod FaultTable
pub mod Scripts
pub mod ScriptFaults
pub mod inside
