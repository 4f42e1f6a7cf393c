-- How the code works: definitions that only inner contracts and proofs cite.
pub mod Standings
pub mod Trials
pub mod Between
pub mod Crossed
