pub mod Endings
pub mod Listing
pub mod Planning
pub mod Sayings
pub mod Successes
pub mod inside
