pub mod Change
pub mod Logging
pub mod Reads
