-- Laws of whole scripts.
pub mod Results
pub mod Looping
