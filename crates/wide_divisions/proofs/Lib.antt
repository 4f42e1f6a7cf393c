pub mod StepReads
pub mod StepValues
