pub mod KnownTiles
pub mod Wide
pub mod inside
