pub mod LeftTiles
pub mod WorkRoom
