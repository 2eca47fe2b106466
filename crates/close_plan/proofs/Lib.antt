pub mod Parts
pub mod Closing
