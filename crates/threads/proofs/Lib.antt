pub mod Applying
pub mod Inverse
pub mod Reading
pub mod Slices
pub mod Waking
