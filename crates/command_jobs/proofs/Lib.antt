pub mod TotalLines
pub mod TotalNames
pub mod TotalWords
pub mod TotalTables
