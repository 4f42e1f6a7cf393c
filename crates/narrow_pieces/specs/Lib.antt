pub mod Pieces
pub mod PiecesOnce
pub mod inside
