pub mod Ends
pub mod Entries
pub mod Composing
pub mod Reaching
pub mod NarrowSums
