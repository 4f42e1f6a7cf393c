pub mod Rewrites
pub mod NormalSums
pub mod NormalKernels
pub mod NormalMedians
