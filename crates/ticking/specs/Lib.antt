pub mod Turns
pub mod Load
