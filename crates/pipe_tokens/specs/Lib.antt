pub mod Character
pub mod Naming
pub mod Spelled
pub mod Padding
pub mod Lexing
pub mod Spelling
pub mod Cutting
pub mod Subsequence
