pub mod Cuts
pub mod PartLemmas
pub mod ThreeSlices
