pub mod GivenAreas
pub mod Pictures
