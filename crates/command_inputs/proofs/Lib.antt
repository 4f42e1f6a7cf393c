pub mod Accepting
pub mod Handing
pub mod Known
pub mod Listed
pub mod MemoryRefusals
pub mod Refused
pub mod TableCounts
pub mod TableLines
