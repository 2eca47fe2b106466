pub mod Victims
pub mod Rounds
