pub mod Reads
pub mod DivisionSteps
pub mod StepsOnce
