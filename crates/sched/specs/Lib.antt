pub mod Meant
pub mod Answers
