pub mod RequestedSchedule
pub mod Results
pub mod TotalTables
pub mod inside
