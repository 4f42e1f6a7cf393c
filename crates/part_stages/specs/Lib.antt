pub mod Parts
pub mod HasMore
pub mod inside
