pub mod Rows
pub mod Plans
pub mod Taken
pub mod Checks
pub mod Windows
pub mod Leads
pub mod Moved
