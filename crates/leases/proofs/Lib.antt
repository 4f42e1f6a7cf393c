pub mod LeaseLists
pub mod LegalHistories
pub mod StandingDesks
pub mod Beginnings
pub mod Adding
