pub mod Cores
pub mod Few
pub mod Stored
pub mod Words
