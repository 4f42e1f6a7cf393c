pub mod TrueFacts
