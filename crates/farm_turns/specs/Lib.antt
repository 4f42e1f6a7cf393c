pub mod Calls
pub mod Periods
pub mod Turns
pub mod Shifts
