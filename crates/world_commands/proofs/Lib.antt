pub mod Ended
pub mod Faults
pub mod Flushed
pub mod NodeCounts
pub mod Nodes
pub mod Schedules
