pub mod Counting
pub mod Faults
pub mod Judging
pub mod Refused
pub mod ZippedLaws
