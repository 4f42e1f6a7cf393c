pub mod Canonical
pub mod Within
