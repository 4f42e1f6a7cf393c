pub mod RowFormulas
pub mod LinearOnce
pub mod inside
