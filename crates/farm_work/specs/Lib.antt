pub mod Making
pub mod Readiness
