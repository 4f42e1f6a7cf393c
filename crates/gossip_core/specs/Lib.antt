pub mod Networks
pub mod Steps
pub mod StepTable
pub mod Histories
pub mod Taking
pub mod Truths
pub mod Finishing
pub mod Headline
