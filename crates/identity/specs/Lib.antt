pub mod Keys
pub mod Hexadecimal
