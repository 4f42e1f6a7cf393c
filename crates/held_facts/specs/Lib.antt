pub mod Facts
pub mod Answers
pub mod HeldFacts
pub mod AnswerFaults
pub mod HeldAnswers
pub mod MakeFaults
pub mod Making
pub mod inside
