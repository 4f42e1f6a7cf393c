pub mod Faults
pub mod Giving
pub mod Input
pub mod JobCatalog
pub mod Sections
pub mod Tables
pub mod inside
