pub mod KernelSums
pub mod Fitting
