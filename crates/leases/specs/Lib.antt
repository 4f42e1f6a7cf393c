pub mod Leases
pub mod Rules
pub mod Standing
pub mod Books
pub mod Shared
pub mod Logs
