pub mod Taps
pub mod Pieces
pub mod ProductLaws
pub mod Separating
pub mod Mirrored
