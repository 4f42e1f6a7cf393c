pub mod Crossing
pub mod Forms
pub mod Lines
pub mod MadeInOrder
pub mod Steps
pub mod StripsAreRows
