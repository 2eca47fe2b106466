pub mod Summing
pub mod Waking
