pub mod Operands
pub mod Added
pub mod Finishes
pub mod Places
pub mod Columns
pub mod RowMask
pub mod Lookup
pub mod inside
