pub mod Printed
pub mod SingleTokens
pub mod AffineTexts
pub mod IndexTexts
pub mod ExpressionTexts
pub mod ItemTexts
pub mod Spelled
