pub mod PartLaws
pub mod IntegerLaws
pub mod LineLaws
