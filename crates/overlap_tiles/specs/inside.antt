-- What inner contracts and proofs cite, and no public one.
pub mod Made
pub mod Placed
pub mod Keyed
