pub mod Taking
pub mod Growing
pub mod Checking
pub mod Windows
pub mod Moved
pub mod Leading
