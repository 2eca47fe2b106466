pub mod Slide
pub mod Scan
pub mod Words
pub mod Frames
pub mod Search
