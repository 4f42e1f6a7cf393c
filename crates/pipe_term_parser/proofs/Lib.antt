pub mod Passing
pub mod Unrolled
