pub mod Reading
pub mod Updating
