-- Definitions that inner contracts and proofs cite, and no public one does: how the code works.
pub mod Questions
pub mod Telling
