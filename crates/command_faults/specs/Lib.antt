pub mod FaultLines
pub mod Statuses
pub mod StepFaults
pub mod Taking
