pub mod Parts
pub mod StageFormulas
pub mod ColumnLaws
pub mod KnownColumns
pub mod Composed
pub mod Points
pub mod PartsAt
pub mod PartReads
