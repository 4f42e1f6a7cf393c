pub mod Parts
pub mod Rows
pub mod VecParts
pub mod Lending
