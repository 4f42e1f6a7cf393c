pub mod Order
pub mod Schedules
pub mod Demands
pub mod Targets
pub mod Costs
pub mod Walks
pub mod Tallies
