pub mod StepLaws
pub mod WorldLaws
pub mod RunLaws
pub mod FinishLaws
pub mod OneUpdate
