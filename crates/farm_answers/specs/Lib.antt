pub mod Answering
pub mod inside
