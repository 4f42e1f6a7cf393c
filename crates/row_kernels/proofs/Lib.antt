pub mod Columns
pub mod Dividing
pub mod Places
pub mod Testing
pub mod Leaving
pub mod Reciprocals
pub mod LastBits
