pub mod Fitting
pub mod Ranging
pub mod Replying
pub mod Telling
pub mod NormalResults
