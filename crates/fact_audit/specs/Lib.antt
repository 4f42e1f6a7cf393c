pub mod TrueFacts
pub mod Shapes
pub mod Verdicts
pub mod inside
