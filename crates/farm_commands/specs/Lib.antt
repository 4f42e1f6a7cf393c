pub mod FarmRuns
pub mod RunFaults
