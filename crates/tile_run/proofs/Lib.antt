pub mod Crossing
pub mod NeedsAreHeld
pub mod RunAllStores
pub mod StageRunGivesTiles
pub mod FirstFound
pub mod FirstTooBig
pub mod TestsOfRanks
pub mod MadeInOrder
