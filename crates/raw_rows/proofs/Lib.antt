pub mod Encoded
pub mod RowLaws
