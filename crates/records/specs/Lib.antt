pub mod Changes
pub mod Waking
