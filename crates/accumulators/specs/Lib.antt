pub mod Answers
pub mod Gatherings
pub mod inside
