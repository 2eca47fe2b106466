pub mod Whole
pub mod Forcing
pub mod Asked
