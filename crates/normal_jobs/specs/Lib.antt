pub mod StandIns
pub mod Alike
