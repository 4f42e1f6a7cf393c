pub mod FarmFaults
pub mod Reports
pub mod NodeEnds
pub mod NodeCalls
pub mod WorkerLogs
pub mod WorkerRuns
pub mod Members
