pub mod AskedRequest
pub mod ChosenOptions
pub mod SpelledParameters
