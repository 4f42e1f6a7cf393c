pub mod Pieces
pub mod StreamedBytes
