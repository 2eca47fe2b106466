pub mod Ladder
pub mod Refusals
pub mod Answers
