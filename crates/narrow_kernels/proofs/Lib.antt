pub mod NarrowReciprocals
pub mod NarrowWraps
pub mod NarrowSums
pub mod NarrowMasks
pub mod NarrowAffine
pub mod NarrowCenters
pub mod NarrowMeans
