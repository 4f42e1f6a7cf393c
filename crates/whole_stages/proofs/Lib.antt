pub mod Sampling
pub mod Knowing
pub mod KnownSamples
pub mod Learning
pub mod TrueTiles
