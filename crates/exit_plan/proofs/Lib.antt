pub mod Parts
pub mod ExitCall
