pub mod Inlining
pub mod Faults
pub mod Greedy
pub mod Chains
pub mod inside
