pub mod Parts
pub mod NewCall
