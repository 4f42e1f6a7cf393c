pub mod KeyLaws
pub mod OrderLaws
pub mod PlaceLaws
pub mod VerbLaws
pub mod ScriptLaws
