pub mod Forcing
pub mod Leavers
pub mod Parts
