pub mod Resting
pub mod Words
pub mod Cores
