-- Definitions of the implementation, which inner contracts and proofs cite and public contracts do not.
pub mod Gathering
