pub mod TrueUpdates
