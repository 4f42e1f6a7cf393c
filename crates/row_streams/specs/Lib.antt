pub mod Once
pub mod Strips
pub mod StripsMade
