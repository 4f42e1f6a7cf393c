pub mod WorldInput
pub mod WorldFaults
pub mod WorldLines
pub mod WorldSayings
pub mod inside
