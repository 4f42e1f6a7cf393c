pub mod IdSets
pub mod States
pub mod Updates
