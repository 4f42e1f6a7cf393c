-- How the code works: definitions that only inner contracts and proofs cite.
pub mod Steps
