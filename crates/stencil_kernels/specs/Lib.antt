pub mod Stencil
pub mod Separable
