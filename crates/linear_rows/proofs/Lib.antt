pub mod LinearWraps
pub mod LinearMakes
pub mod LinearValues
pub mod LinearMeans
pub mod LinearQuotients
