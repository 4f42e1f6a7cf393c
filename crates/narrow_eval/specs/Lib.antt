pub mod NarrowPrograms
pub mod NarrowStencils
pub mod NarrowCases
pub mod inside
