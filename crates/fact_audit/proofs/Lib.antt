pub mod OneTile
pub mod Judging
pub mod Pairing
pub mod Serving
