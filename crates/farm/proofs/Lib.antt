pub mod Gathering
pub mod Crossing
pub mod Ends
pub mod NodeReceipts
pub mod Members
pub mod WorkerCalls
pub mod WorkerRuns
