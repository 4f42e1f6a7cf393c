pub mod Binding
pub mod Fits
pub mod Texts
pub mod BindFaults
pub mod inside
