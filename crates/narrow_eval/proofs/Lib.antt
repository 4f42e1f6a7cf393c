pub mod NarrowStencils
pub mod NarrowReady
pub mod Sizes
