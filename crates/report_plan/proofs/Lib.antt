-- Laws of whole scripts.
pub mod Parts
pub mod Turning
