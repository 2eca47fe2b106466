pub mod Meant
pub mod Steps
pub mod Feeding
