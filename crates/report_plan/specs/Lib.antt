pub mod Running
pub mod Turning
