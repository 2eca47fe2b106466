pub mod Reading
pub mod Cores
pub mod Fit
