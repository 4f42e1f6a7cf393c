pub mod States
pub mod Answers
pub mod HeldAnswers
pub mod Making
