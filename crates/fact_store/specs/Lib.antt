pub mod Facts
pub mod inside
