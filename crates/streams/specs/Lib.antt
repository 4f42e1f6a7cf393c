pub mod Streams
pub mod Wholes
