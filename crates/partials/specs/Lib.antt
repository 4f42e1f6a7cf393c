pub mod Partials
pub mod inside
