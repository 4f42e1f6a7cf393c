pub mod Auditing
pub mod FactFaults
pub mod FactInput
pub mod FactSayings
pub mod Merging
pub mod Verdicts
